use Rattle.ms_base.specs.Hashed.{by_name}
use Rattle.ms_arena.specs.Raw.{live_in}
use Rattle.ms_arena.proofs.ArenaLemmas.{live_same}
use Rattle.ms_arena.proofs.EnterLemmas.{enters}
use Rattle.ms_arena.proofs.arena.Arena.alloc.Goals as goal

pub invariant_of-self-in-Ok : goal.invariant_of-self-in-Ok
invariant_of-self-in-Ok g c =
    (enters c.self.inside.raw c.alloc.new.self c.in-Ok.block (by_name c.self.inside.live.entries)
    (by_name c.made_room.new.live.entries) (by_name c.put.new.live.entries) c.self.invariant c.in-Ok.ensures.gains
    c.made_room.ensures.same c.put.ensures).holds

pub returns-in-Ok-clause-fresh : goal.returns-in-Ok-clause-fresh
returns-in-Ok-clause-fresh g c =
    rw (← c.self.view_is)
    (enters c.self.inside.raw c.alloc.new.self c.in-Ok.block (by_name c.self.inside.live.entries)
    (by_name c.made_room.new.live.entries) (by_name c.put.new.live.entries) c.self.invariant c.in-Ok.ensures.gains
    c.made_room.ensures.same c.put.ensures).fresh

pub returns-in-Ok-clause-allocates : goal.returns-in-Ok-clause-allocates
returns-in-Ok-clause-allocates g c =
    let its = enters c.self.inside.raw c.alloc.new.self c.in-Ok.block (by_name c.self.inside.live.entries)
    (by_name c.made_room.new.live.entries) (by_name c.put.new.live.entries) c.self.invariant c.in-Ok.ensures.gains
    c.made_room.ensures.same c.put.ensures in
    rw (← c.self.view_is, its.live)
    (c.in-Ok.ensures.allocates (live_in c.self.inside.raw.words (by_name c.self.inside.live.entries)))

pub returns-in-Err-clause-allocates : goal.returns-in-Err-clause-allocates
returns-in-Err-clause-allocates g c =
    let same = live_same c.self.inside.raw.words c.alloc.new.self.words (by_name c.self.inside.live.entries)
    (by_name c.made_room.new.live.entries) c.in-Err.ensures.unchanged.words c.made_room.ensures.same in
    rw (← c.self.view_is, same)
    (c.in-Err.ensures.allocates (live_in c.self.inside.raw.words (by_name c.self.inside.live.entries)))

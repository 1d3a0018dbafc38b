use Rattle.ms_base.specs.Hashed.{by_name}
use Rattle.ms_arena.specs.Raw.{live_in}
use Rattle.ms_arena.proofs.ArenaLemmas.{live_same}
use Rattle.ms_arena.proofs.EnterLemmas.{enters}
use Rattle.ms_arena.proofs.arena.Arena.place.Goals as goal

pub invariant_of-self-in-Ok-Some : goal.invariant_of-self-in-Ok-Some
invariant_of-self-in-Ok-Some c =
    (enters c.self.inside.raw c.place.new.self c.in-Ok-Some.block (by_name c.self.inside.live.entries)
    (by_name c.made_room.new.live.entries) (by_name c.put.new.live.entries) c.self.invariant
    (rw c.in-Ok-Some.field-0-is at c.in-Ok-Some.ensures.gains) c.made_room.ensures.same c.put.ensures).holds

pub returns-in-Ok-Some-clause-placed : goal.returns-in-Ok-Some-clause-placed
returns-in-Ok-Some-clause-placed c =
    let its = enters c.self.inside.raw c.place.new.self c.in-Ok-Some.block (by_name c.self.inside.live.entries)
    (by_name c.made_room.new.live.entries) (by_name c.put.new.live.entries) c.self.invariant
    (rw c.in-Ok-Some.field-0-is at c.in-Ok-Some.ensures.gains) c.made_room.ensures.same c.put.ensures in
    rw (← c.self.view_is, its.live)
    (rw c.in-Ok-Some.field-0-is at
    (c.in-Ok-Some.ensures.placed (live_in c.self.inside.raw.words (by_name c.self.inside.live.entries))))

pub returns-in-Ok-None-clause-placed : goal.returns-in-Ok-None-clause-placed
returns-in-Ok-None-clause-placed c =
    let same = live_same c.self.inside.raw.words c.place.new.self.words (by_name c.self.inside.live.entries)
    (by_name c.made_room.new.live.entries)
    (rw c.in-Ok-None.field-0-is at c.in-Ok-None.ensures.none).words c.made_room.ensures.same in
    rw (← c.self.view_is, same)
    (rw c.in-Ok-None.field-0-is at
    (c.in-Ok-None.ensures.placed (live_in c.self.inside.raw.words (by_name c.self.inside.live.entries))))

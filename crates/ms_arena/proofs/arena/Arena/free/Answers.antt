use Rattle.std.proofs.Common.{refl}
use Rattle.ms_base.specs.Hashed.{by_name}
use Rattle.ms_base.proofs.entries.EntryLemmas.{split_at}
use Rattle.ms_arena.proofs.ArenaLemmas.{is_live, is_not_live}
use Rattle.ms_arena.proofs.EnterLemmas.{goes}
use Rattle.ms_arena.proofs.HoldLemmas.{may_free}
use Rattle.ms_arena.proofs.arena.Arena.free.Goals as goal

pub returns-then-not-is_live-clause-not_live : goal.returns-then-not-is_live-clause-not_live
returns-then-not-is_live-clause-not_live c = (
  λ refused. rw (← c.self.view_is)
      (is_not_live c.self.inside.raw (by_name c.self.inside.live.entries) c.args.block c.if-not-is_live.ensures.1),
  λ not_live. refl,
)

pub free-requires : goal.free-requires
free-requires c =
    let split = split_at (by_name c.self.inside.live.entries) c.args.block.start c.args.block.words
    (c.if-not-is_live.ensures.0 refl) in
    let may = may_free c.self.inside.raw c.args.block (by_name c.self.inside.live.entries) split.before split.after
    c.self.invariant split.is in
    record { some = may.some; awaits = may.awaits }

pub invariant_of-self : goal.invariant_of-self
invariant_of-self c =
    (goes c.self.inside.raw c.free.new.self c.args.block c.self.inside.live.entries c.remove.new.self.entries
    c.self.invariant c.free.ensures (c.if-not-is_live.ensures.0 refl) c.remove.ensures.updates.0).holds

pub returns-clause-freed : goal.returns-clause-freed
returns-clause-freed c =
    rw (← c.self.view_is)
    (goes c.self.inside.raw c.free.new.self c.args.block c.self.inside.live.entries c.remove.new.self.entries
    c.self.invariant c.free.ensures (c.if-not-is_live.ensures.0 refl) c.remove.ensures.updates.0).frees

pub returns-clause-not_live : goal.returns-clause-not_live
returns-clause-not_live c = (
  λ refused. absurd (cc),
  λ not_live. absurd
      ((rw (← c.self.view_is) at not_live) _
      (is_live c.self.inside.raw (by_name c.self.inside.live.entries) c.args.block (c.if-not-is_live.ensures.0 refl))),
)

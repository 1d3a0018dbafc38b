use Rattle.std.proofs.Common.{sym, ap, ◌∙◌, ◌∷◌}
use Rattle.ms_loader_map.specs.Slots.{rest_of}
use Rattle.ms_loader_map.proofs.slots.KeptLemmas.{first_taken, kept_first, nothing_kept, some_kept}
use Rattle.ms_loader_map.proofs.loaders.Loaders.pop_first.Goals as goal

pub returns-in-None-clause-none : goal.returns-in-None-clause-none
returns-in-None-clause-none c = λ none. rw (← c.self.view_is) (
  nothing_kept c.self.inside.slots c.self.inside.first c.self.inside.count c.self.invariant c.in-None.ensures.none,
  nothing_kept c.self.inside.slots c.self.inside.first c.self.inside.count c.self.invariant c.in-None.ensures.none,
)

pub overflow_sub-self : goal.overflow_sub-self
overflow_sub-self c = some_kept c.self.inside.slots c.self.inside.first c.self.inside.count c.name.result.now
    c.in-Some-take.boxed c.self.invariant (sym c.in-Some-take.ensures.found)

pub invariant_of-self : goal.invariant_of-self
invariant_of-self c = rw c.from-self-inside.ensures (kept_first c.self.inside.slots c.take.new.self c.self.inside.first
    c.self.inside.count c.in-Some.field-0-0 c.name.result.now c.in-Some.boxed.now c.self.invariant
    c.in-Some.ensures.next c.name.ensures c.take.ensures.gone)

pub returns-in-Some-take-clause-first : goal.returns-in-Some-take-clause-first
returns-in-Some-take-clause-first c = rw (← c.self.view_is) (first_taken c.self.inside.slots c.take.new.self
    c.self.inside.first c.self.inside.count c.in-Some.field-0-0 c.name.result.now c.in-Some.boxed.now
    c.in-Some-take.boxed c.self.invariant c.in-Some.ensures.next c.name.ensures c.take.ensures.gone
    c.in-Some-take.ensures.found ∙ ap (λ taken. taken ∷ rest_of c.take.new.self 0) (sym c.into_named-name.ensures))

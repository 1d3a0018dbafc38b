use Rattle.std.proofs.Common.{ap, sym, subst, ◌∙◌, ◌∷◌}
use Rattle.std.specs.Map.{values_of}
use Rattle.std.specs.Map.Iter.{TakesFirst, deref}
use Rattle.ms_loader_map.proofs.loaders.walks.ValuesIterator.next.Goals as goal
use Rattle.ms_loader_map.proofs.loaders.walks.ValuesIterator.next.Goals.{in-Some, in-None}

pub returns-clause-steps : goal.returns-clause-steps
returns-clause-steps c = elim c.match-next.branch [
  | in-Some w ↦ subst (λ r. TakesFirst deref c.args.self.now r (values_of c.next.new.self)) (sym w.result-is)
      (sym c.self.view_is ∙ ap values_of w.in-Some.ensures ∙ (λ i. sym w.loader.ensures i ∷ values_of c.next.new.self))
  | in-None w ↦ subst (λ r. TakesFirst deref c.args.self.now r (values_of c.next.new.self)) (sym w.result-is)
      (sym c.self.view_is ∙ ap values_of w.in-None.ensures.0, ap values_of w.in-None.ensures.1)
]

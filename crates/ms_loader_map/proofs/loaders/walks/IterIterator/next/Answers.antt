use Rattle.std.proofs.Common.{sym, subst, ◌∙◌, ◌∷◌}
use Rattle.std.specs.Map.Iter.{TakesFirst, deref_pair}
use Rattle.ms_loader_map.proofs.loaders.walks.IterIterator.next.Goals as goal
use Rattle.ms_loader_map.proofs.loaders.walks.IterIterator.next.Goals.{in-Some, in-None}

pub returns-clause-steps : goal.returns-clause-steps
returns-clause-steps c = elim c.match-next.branch [
  | in-Some w ↦ subst (λ r. TakesFirst deref_pair c.args.self.now r c.next.new.self) (sym w.result-is)
      (sym c.self.view_is ∙ w.in-Some.ensures ∙ (λ i. (sym w.name.ensures i, sym w.loader.ensures i) ∷ c.next.new.self))
  | in-None w ↦ subst (λ r. TakesFirst deref_pair c.args.self.now r c.next.new.self) (sym w.result-is)
      (sym c.self.view_is ∙ w.in-None.ensures.0, w.in-None.ensures.1)
]

-- What stands at the entry is lent, and nothing else that starts there is.
use Rattle.std.proofs.Common.{◌≡◌, Some, sym, ap, subst, ◌∙◌}
use Rattle.ms_buddy.specs.declared.entries.Lending.{Lending}
use Rattle.ms_buddy.specs.Leaves.{AreInOrder, is_lent, span_at}
use Rattle.ms_buddy.proofs.LentPartLemmas.{lent_there, not_lent}
use Rattle.ms_buddy.proofs.KeptTreeLemmas.{are_leaves}
use Rattle.ms_buddy.proofs.part_table.PartTable.lent_at.Goals as goal

pub returns-in_err-lending-clause-none : goal.returns-in_err-lending-clause-none
returns-in_err-lending-clause-none g c =
    rw c.from_residual.ensures
    (ap (λ leaves. is_lent leaves (span_at c.args.start c.args.level)) (sym c.self.view_is)
    ∙ not_lent c.self.inside.entries (span_at c.args.start c.args.level)
    (λ lending e f. absurd (cc (sym c.get.ensures ∙ c.in_err-lending.was, e))))

pub returns-then-number-level-clause-none : goal.returns-then-number-level-clause-none
returns-then-number-level-clause-none g c =
    ap (λ leaves. is_lent leaves (span_at c.args.start c.args.level)) (sym c.self.view_is)
    ∙ not_lent c.self.inside.entries (span_at c.args.start c.args.level)
    (λ lending e f. c.if-number-level.true (c.number.ensures.same
    ∙ level_is _ _ (sym (c.in_ok-lending.was) ∙ c.get.ensures ∙ e) ∙ sym f))
  where
    level_is : (a b : Lending) → Some a ≡ Some b → a.level ≡ b.level
    level_is a b e = cc

pub returns-clause-lent : goal.returns-clause-lent
returns-clause-lent g c =
    let kept = c.self.invariant in
    rw (← c.self.view_is, c.from.ensures)
    (lent_there c.self.inside.entries c.args.level c.args.start c.in_ok-lending.lending
    (subst AreInOrder kept.lent_is (are_leaves kept.node kept.tree.tree).in_order)
    (sym c.get.ensures ∙ c.in_ok-lending.was) (sym c.number.ensures.same ∙ c.if-number-level.false) c.requires.whole)

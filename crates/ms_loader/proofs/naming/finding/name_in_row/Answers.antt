use Rattle.std.proofs.Common.{◌∙◌, sym, ap, arith, inl, inr, length, ◌-◌, ◌+◌}
use Rattle.std.proofs.lemmas.Bool.{cases_lt, eq-eqb}
use Rattle.ms_base.specs.declared.span.Block.{Block}
use Rattle.ms_loader.proofs.TableLemmas.{at_its_slot, before_row, past_row}
use Rattle.ms_loader.proofs.naming.finding.name_in_row.Goals as goal

pub returns-clause-none : goal.returns-clause-none
returns-clause-none c = λ name here. elim (cases_lt name c.args.first) [
  | inl before ↦ eq-eqb c.args.block.words 0
      (ap (λ (b : Block). b.words) (sym here ∙ before_row c.args.first c.args.row.now name before))
  | inr from ↦ elim (cases_lt name (c.args.first + length c.args.row.now)) [
    | inl less ↦ absurd
        (c.loop-at.invariant (name - c.args.first) (omega (arith, from, less, c.loop-at-test.false))
        (sym (at_its_slot c.args.first c.args.row.now (name - c.args.first) name (omega (arith, from))) ∙ here))
    | inr past ↦ eq-eqb c.args.block.words 0
        (ap (λ (b : Block). b.words) (sym here ∙ past_row c.args.first c.args.row.now name past))
  ]
]

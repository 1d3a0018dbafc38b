use Rattle.std.proofs.Common.{ap, subst, ◌∙◌, ◌≡◌}
use Rattle.std.specs.Prelude.{IfSome}
use Rattle.ms_base.specs.State.{Machine}
use Rattle.ms_base.specs.Totals.{sums_of}
use Rattle.ms_answers.specs.Details.{details_in, details_of}
use Rattle.ms_run.proofs.between.totals_of.Goals as goal

pub returns-clause-of : goal.returns-clause-of
returns-clause-of c = λ course taken. record {
  sums = c.in_ok-totals.ensures ∙ ap sums_of taken.state;
  details =
      subst (λ (m : Machine). IfSome c.in_ok-details.details (λ its. details_in its ≡ details_of m)) taken.state
      c.in_ok-details.ensures.of;
  peaks = taken.peaks;
}

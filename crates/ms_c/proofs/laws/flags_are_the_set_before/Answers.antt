use Rattle.std.proofs.Common.{◌≡◌, ℕ, ◌+◌, ◌&&◌, not, ◌++◌, nat_lt, Some, ap, ◌∙◌, arith}
use Rattle.ms_base.specs.Committed.{is_among}
use Rattle.ms_c.specs.Sums.{bit_at}
use Rattle.ms_c.specs.Runs.{commits_of}
use Rattle.ms_c.proofs.RunLemmas.{went_of}
use Rattle.ms_c.proofs.laws.flags_are_the_set_before.Goals as goal

pub returns : goal.returns
returns c before after count was are granule =
    let same : 0 + granule ≡ granule = omega arith in
    went_of (bit_at before 0) (commits_of (Some after)) count was are granule
    ∙ ap (λ (n : ℕ). nat_lt granule count
    && (is_among (before.committed ++ before.class_committed) n && not (commits_of (Some after) granule))) same

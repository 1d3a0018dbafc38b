use Rattle.std.proofs.Common.{arith}
use Rattle.ms_member.specs.Uncommitted.{is_uncommitted}
use Rattle.ms_c.proofs.RunLemmas.{are_apart, have_what_went}
use Rattle.ms_c.proofs.laws.runs_are_the_difference.Goals as goal

pub returns : goal.returns
returns c was commits runs its = record {
  apart = are_apart (is_uncommitted was commits) runs 0 its;
  granules = λ granule. have_what_went (is_uncommitted was commits) runs 0 its granule (omega arith);
}

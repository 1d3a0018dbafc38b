use Rattle.std.proofs.Common.{◌≡◌, Bool, true, false, ◌&&◌, not, refl, ◌∙◌}
use Rattle.std.specs.Prelude.{◌==◌}
use Rattle.ms_base.specs.Committed.{is_among}
use Rattle.ms_commit.specs.NumberSet.{is_in_range}
use Rattle.ms_commit.proofs.RangeLemmas.{is_among-filter}
use Rattle.ms_commit.proofs.SameLemmas.{is_among-insert_key}
use Rattle.ms_commit.proofs.SetLemmas.{is_among-with_range, is_among-without_range}
use Rattle.ms_commit.proofs.laws.changes_are_by_members.Goals as goal

turned : (a b : Bool) → (a && b) ≡ (b && a)
turned true true = refl
turned true false = refl
turned false true = refl
turned false false = refl

pub returns : goal.returns
returns c members first count number = record {
  range_added = is_among-with_range members first count number;
  range_out =
      is_among-without_range members first count number
      ∙ turned (not (is_in_range first count number)) (is_among members number);
  number_added = is_among-insert_key members first number;
  number_out =
      is_among-filter (λ other. not (other == first)) members number
      ∙ turned (not (number == first)) (is_among members number);
}

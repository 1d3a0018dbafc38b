-- One step of a walk over levels.
use Rattle.std.proofs.Common.{◌≡◌, ◌<◌, ℕ, ◌+◌, ◌*◌, ◌%◌, ◌^◌, true, ◌&&◌, List, get_or, bit_or, sym, ap, ◌∙◌, inl, inr, arith, w16}
use Rattle.std.specs.Prelude.{◌==◌, nat_lt}
use Rattle.std.specs.Int.{bit_at}
use Rattle.std.proofs.lemmas.Bool.{cases_eq}
use Rattle.std.proofs.lemmas.Nat.Bits.{bit_at_set_other, bit_at_set_same}
use Rattle.ms_buddy.specs.Leaves.{has_level}
use Rattle.std.proofs.lemmas.Bool.Decides.{nat_tests}
use Rattle.ms_buddy.specs.Counts.{AreRaised, AreShifted, one_at, one_between}

last_between : (free level other : ℕ) → free < level
    → one_between free (level + 1) other ≡ one_at level other + one_between free level other
last_between free level other h = grind (arith, nat_tests)

-- A merge counts one less of one level more.
pub one_joined : (old counts new : List ℕ) (free level : ℕ) → free < level → AreShifted counts free level old
    → AreRaised new (one_at level) counts → AreShifted new free (level + 1) old
one_joined old counts new free level h shifted raised = record {
  full = shifted.full ∙ raised.full;
  counts = λ other low. omega (arith, shifted.counts other low, raised.counts other low, last_between free level other h);
}

-- Of the levels below one those are told that have any.
abbrev pub AreTold : ℕ → List ℕ → ℕ → Type 0
AreTold levels counts level = (other : ℕ) → has_level levels other ≡ (nat_lt other level && nat_lt 0 (get_or counts other 0))

-- Only the level itself is told anew.
beside : (a b n : ℕ) → (a ≡ b → ⊥) → (nat_lt a b && nat_lt 0 n) ≡ (nat_lt a (b + 1) && nat_lt 0 n)
beside a b n differs = grind (arith, nat_tests)

-- One level more is told, or passed over.
pub one_told : (levels : ℕ) (counts : List ℕ) (level : ℕ) → level < 13 → 0 < get_or counts level 0
    → AreTold levels counts level → AreTold (bit_or levels (1 * 2 ^ level % 2 ^ 16)) counts (level + 1)
one_told levels counts level low some told other = elim (cases_eq other level) [
  | inl same ↦
      ap (λ bit. bit == 1) (ap (bit_at (bit_or levels (1 * 2 ^ level % 2 ^ 16))) same ∙ bit_at_set_same w16 levels level (omega (arith, low)))
      ∙ sym (here other (get_or counts other 0) (omega (arith, same)) (omega (arith, some, ap (λ n. get_or counts n 0) same)))
  | inr differs ↦
      ap (λ bit. bit == 1) (bit_at_set_other w16 levels level (omega (arith, low)) other differs)
      ∙ told other ∙ beside other level (get_or counts other 0) differs
]
  where
    here : (a n : ℕ) → a < level + 1 → 0 < n → (nat_lt a (level + 1) && nat_lt 0 n) ≡ true
    here a n h k = grind (arith, nat_tests)

pub one_passed : (levels : ℕ) (counts : List ℕ) (level : ℕ) → get_or counts level 0 ≡ 0 → AreTold levels counts level
    → AreTold levels counts (level + 1)
one_passed levels counts level none told other = elim (cases_eq other level) [
  | inl same ↦
      told other ∙ none_at other (get_or counts other 0) (omega (arith, none, ap (λ n. get_or counts n 0) same))
  | inr differs ↦ told other ∙ beside other level (get_or counts other 0) differs
]
  where
    none_at : (a n : ℕ) → n ≡ 0 → (nat_lt a level && nat_lt 0 n) ≡ (nat_lt a (level + 1) && nat_lt 0 n)
    none_at a n e = grind (arith, nat_tests)

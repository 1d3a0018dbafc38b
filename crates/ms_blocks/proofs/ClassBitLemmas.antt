-- The bits that tell which trees have blocks: the next one that is set, and what a change of one
-- leaves.
use Rattle.std.proofs.Common.{◌≡◌, ◌≢◌, ℕ, ◌+◌, ◌<◌, ◌≤◌}
use Rattle.std.proofs.Common.{ap, sym, ◌∙◌, arith, inl, inr}
use Rattle.std.proofs.Common.{bit_and, w64, ◌*◌, ◌-◌, ◌/◌, ◌%◌, ◌^◌}
use Rattle.std.specs.Int.{bit_at, bit_not, trailing_zeros}
use Rattle.std.proofs.lemmas.Bool.{cases_lt}
use Rattle.std.proofs.lemmas.Nat.{shr-shr, shr_le}
use Rattle.std.proofs.lemmas.Nat.Bits.{bit_at-zero, bit_at-trailing_zeros, bit_at_above, bit_at_and}
use Rattle.std.proofs.lemmas.Nat.Bits.{bit_at_clear_other}
use Rattle.ms_blocks.specs.Classes.{IsNextClass}

-- The bits of classes.
bit_moved : (n first i : ℕ) → bit_at (n / 2 ^ first) i ≡ bit_at n (first + i)
bit_moved n first i = ap (λ x. x % 2) (shr-shr n first i)

pub half : (some class : ℕ) → some / 2 ^ class / 2 ≡ some / 2 ^ (class + 1)
half some class = shr-shr some class 1

bit_from : (some first class : ℕ) → first ≤ class → bit_at some class ≡ bit_at (some / 2 ^ first) (class - first)
bit_from some first class from =
    let moved : class ≡ first + (class - first) = omega arith in
    ap (bit_at some) moved ∙ sym (bit_moved some first (class - first))

pub none_later : (some first class : ℕ) → some / 2 ^ first ≡ 0 → first ≤ class → bit_at some class ≡ 0
none_later some first class none from =
    bit_from some first class from ∙ ap (λ n. bit_at n (class - first)) none ∙ bit_at-zero (class - first)

pub is_next : (some class : ℕ) → 0 < some / 2 ^ (class + 1) → some < 2 ^ 64
    → IsNextClass some class (class + 1 + trailing_zeros w64 (some / 2 ^ (class + 1)))
is_next some class more fits = record {
  within = elim (cases_lt (class + 1 + position) 64) [
    | inl low ↦ low
    | inr high ↦ absurd (omega (arith, one, bit_at_above some 64 (class + 1 + position) fits high))
  ];
  from = omega arith;
  past = λ other from under. bit_from some (class + 1) other (omega (arith, from))
      ∙ lies.2 (other - (class + 1)) (omega (arith, from, under));
  one = one;
}
  where
    later : ℕ
    later = some / 2 ^ (class + 1)

    position : ℕ
    position = trailing_zeros w64 later

    lies : (position < 64) × (bit_at later position ≡ 1) × ((i : ℕ) → i < position → bit_at later i ≡ 0)
    lies = bit_at-trailing_zeros w64 later more (omega (arith, fits, shr_le some (class + 1)))

    one : bit_at some (class + 1 + position) ≡ 1
    one = sym (bit_moved some (class + 1) position) ∙ lies.1

pub bit_others : (some class other : ℕ) → class < 64 → some < 2 ^ 64 → other ≢ class
    → bit_at (bit_and some (bit_not w64 (1 * 2 ^ class % 2 ^ 64))) other ≡ bit_at some other
bit_others some class other within fits differ =
    elim (cases_lt other 64) [
      | inl low ↦ bit_at_clear_other w64 some class within other low differ
      | inr high ↦ omega (
        arith,
        bit_at_and some (bit_not w64 (1 * 2 ^ class % 2 ^ 64)) other,
        bit_at_above some 64 other fits high,
      )
    ]

pub bit_few : (n i : ℕ) → bit_at n i < 2
bit_few n i = omega arith

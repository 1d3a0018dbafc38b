-- Bits of words: one is changed, and the lowest set one is found. For the set of free leaves.
use Rattle.std.proofs.Common.{◌≡◌, ◌≢◌, ◌<◌, ◌≤◌, ℕ, zero, suc, ◌+◌, ◌-◌, ◌*◌, ◌/◌, ◌%◌, ◌^◌, Bool, true, false, cond, not, List}
use Rattle.std.proofs.Common.{length, get_or, replicate, refl, sym, ap, ◌∙◌, inl, inr, arith, w64}
use Rattle.std.specs.Prelude.{◌==◌, slice_set}
use Rattle.std.specs.Int.{bit_at, trailing_zeros}
use Rattle.std.proofs.lemmas.Bool.{cases_lt, cases_eq}
use Rattle.std.proofs.lemmas.Bool.Decides.{nat_tests}
use Rattle.std.proofs.lemmas.List.{get_or-set_same, get_or-set_other}
use Rattle.std.proofs.lemmas.Nat.{shr_le, shr-shr}
use Rattle.std.proofs.lemmas.Nat.Bits.{bit_at-lt, bit_at-zero, bit_at-trailing_zeros, bit_at_above}
use Rattle.ms_buddy.specs.FreeBits.{IsFilled, IsLowestBit, IsNextSet, bit_of}

is_same_number : (a b : ℕ) → a ≡ b → (a == b) ≡ true
is_same_number a b e = grind (arith, nat_tests)

is_other_number : (a b : ℕ) → (b ≡ a → ⊥) → (a == b) ≡ false
is_other_number a b e = grind (arith, nat_tests)

-- A word is changed at the position of a number alone.
pub changed : (words : List ℕ) (number other word bit : ℕ) → number / 64 < length words
    → bit_at word (number % 64) ≡ bit
    → ((position : ℕ) → position < 64 → position ≢ number % 64 → bit_at word position ≡ bit_at (get_or words (number / 64) 0) position)
    → bit_of (slice_set words (number / 64) word) other ≡ cond (number == other) bit (bit_of words other)
changed words number other word bit within here there = elim (cases_eq (other / 64) (number / 64)) [
  | inl row ↦
      ap (λ at. bit_at (get_or (slice_set words (number / 64) word) at 0) (other % 64)) row
      ∙ ap (λ w. bit_at w (other % 64)) (get_or-set_same words (number / 64) word 0 within)
      ∙ elim (cases_eq (other % 64) (number % 64)) [
        | inl column ↦
            ap (bit_at word) column ∙ here
            ∙ sym (ap (λ b. cond b bit (bit_of words other)) (is_same_number number other (omega (arith, row, column))))
        | inr differs ↦
            there (other % 64) (omega arith) differs
            ∙ ap (λ at. bit_at (get_or words at 0) (other % 64)) (sym row)
            ∙ sym (ap (λ b. cond b bit (bit_of words other))
            (is_other_number number other (λ e. differs (ap (λ n. n % 64) e))))
      ]
  | inr differs ↦
      ap (λ w. bit_at w (other % 64)) (get_or-set_other words (number / 64) (other / 64) word 0 differs)
      ∙ sym (ap (λ b. cond b bit (bit_of words other))
      (is_other_number number other (λ e. differs (ap (λ n. n / 64) e))))
]

-- A bit that isn't 1 is 0.
pub clear_bit : (words : List ℕ) (number : ℕ) → (bit_of words number == 1) ≡ false → bit_of words number ≡ 0
clear_bit words number = by_case (bit_of words number) (bit_at-lt _ _)
  where
    by_case : (bit : ℕ) → bit < 2 → (bit == 1) ≡ false → bit ≡ 0
    by_case bit small e = grind (arith, nat_tests)

-- No bit is set in words of zeros.
zero_word : (n at : ℕ) → get_or {A = ℕ} (replicate n 0) at 0 ≡ 0
zero_word zero at = refl
zero_word (suc n) zero = refl
zero_word (suc n) (suc at) = zero_word n at

pub no_bit : (n number : ℕ) → bit_of (replicate n 0) number ≡ 0
no_bit n number = ap (λ w. bit_at w (number % 64)) (zero_word n (number / 64)) ∙ bit_at-zero (number % 64)

-- The bits of a word moved down are those from a position on.
moved : (word from position : ℕ) → from ≤ position → bit_at word position ≡ bit_at (word / 2 ^ from) (position - from)
moved word from position h =
    let there : position ≡ from + (position - from) = omega arith in
    ap (bit_at word) there ∙ sym (ap (λ x. x % 2) (shr-shr word from (position - from)))

pub no_later_bit : (word from position : ℕ) → word / 2 ^ from ≡ 0 → from ≤ position → bit_at word position ≡ 0
no_later_bit word from position none h =
    moved word from position h ∙ ap (λ w. bit_at w (position - from)) none ∙ bit_at-zero (position - from)

pub lowest_later_bit : (word from : ℕ) → 0 < word / 2 ^ from → word < 2 ^ 64
    → IsLowestBit word from (from + trailing_zeros w64 (word / 2 ^ from))
lowest_later_bit word from some fits = record {
  low = omega arith;
  high = elim (cases_lt (from + trailing_zeros w64 (word / 2 ^ from)) 64) [
    | inl inside ↦ inside
    | inr over ↦ absurd (omega (arith, one, bit_at_above word 64 (from + trailing_zeros w64 (word / 2 ^ from)) fits over))
  ];
  set = one;
  below = λ position low under. moved word from position low ∙ lies.2 (position - from) (omega (arith, low, under));
}
  where
    lies : (trailing_zeros w64 (word / 2 ^ from) < 64)
        × (bit_at (word / 2 ^ from) (trailing_zeros w64 (word / 2 ^ from)) ≡ 1)
        × ((i : ℕ) → i < trailing_zeros w64 (word / 2 ^ from) → bit_at (word / 2 ^ from) i ≡ 0)
    lies = bit_at-trailing_zeros w64 (word / 2 ^ from) some (omega (arith, fits, shr_le word from))

    one : bit_at word (from + trailing_zeros w64 (word / 2 ^ from)) ≡ 1
    one = sym (ap (λ x. x % 2) (shr-shr word from (trailing_zeros w64 (word / 2 ^ from)))) ∙ lies.1

-- No number that was passed has its bit set.
abbrev pub NoneSet : List ℕ → ℕ → ℕ → Type 0
NoneSet words from end = (number : ℕ) → from ≤ number → number < end → bit_of words number ≡ 0

bit_in_row : (words : List ℕ) (row number : ℕ) → number / 64 ≡ row
    → bit_of words number ≡ bit_at (get_or words row 0) (number % 64)
bit_in_row words row number e = ap (λ at. bit_at (get_or words at 0) (number % 64)) e

-- A word has no bit from a position on.
pub none_later : (words : List ℕ) (from at : ℕ)
    → ((position : ℕ) → at % 64 ≤ position → position < 64 → bit_at (get_or words (at / 64) 0) position ≡ 0)
    → NoneSet words from at → NoneSet words from ((at / 64 + 1) * 64)
none_later words from at none before number low high = elim (cases_lt number at) [
  | inl under ↦ before number low under
  | inr past ↦
      bit_in_row words (at / 64) number (omega (arith, past, high))
      ∙ none (number % 64) (omega (arith, past, high)) (omega arith)
]

-- The lowest number that has its bit set, where the word that was reached has one from a position on.
pub lowest_later : (words : List ℕ) (from end at position : ℕ) → from ≤ at
    → IsLowestBit (get_or words (at / 64) 0) (at % 64) position
    → NoneSet words from at → at / 64 * 64 + position < end → IsNextSet words from end (at / 64 * 64 + position)
lowest_later words from end at position low lowest before below = record {
  low = omega (arith, low, lowest.low);
  high = below;
  set =
      bit_in_row words (at / 64) (at / 64 * 64 + position) (omega (arith, lowest.high))
      ∙ ap (bit_at (get_or words (at / 64) 0)) (omega (arith, lowest.high)) ∙ lowest.set;
  below = λ number least under. elim (cases_lt number at) [
    | inl passed ↦ before number least passed
    | inr past ↦
        bit_in_row words (at / 64) number (omega (arith, past, under, lowest.high))
        ∙ lowest.below (number % 64) (omega (arith, past, under, lowest.high)) (omega (arith, past, under, lowest.high))
  ];
}

abbrev one_if : Bool → ℕ
one_if b = cond b 1 0

abbrev none_if : Bool → ℕ
none_if b = cond b 0 1

-- A word has a bit exactly where the second row says so: with no bit at all, with one more, and
-- with one less.
pub none_filled : (n m : ℕ) → IsFilled (replicate n 0) (replicate m 0)
none_filled n m row = no_bit m row ∙ sym (ap (λ (w : ℕ). none_if (w == 0)) (zero_word n row))

-- The word of a row is changed, and its bit is that it has any.
pub row_changed : (words filled : List ℕ) (row word bit : ℕ) (new : List ℕ) → row < length words
    → IsFilled words filled → bit ≡ one_if (not (word == 0))
    → ((other : ℕ) → bit_of new other ≡ cond (row == other) bit (bit_of filled other))
    → IsFilled (slice_set words row word) new
row_changed words filled row word bit new within are is told other = elim (cases_eq other row) [
  | inl same ↦
      told other ∙ ap (λ b. cond b bit (bit_of filled other)) (is_same_number row other (sym same)) ∙ is
      ∙ turned (word == 0)
      ∙ sym (ap (λ (w : ℕ). none_if (w == 0))
      (ap (λ at. get_or (slice_set words row word) at 0) same ∙ get_or-set_same words row word 0 within))
  | inr differs ↦
      told other ∙ ap (λ b. cond b bit (bit_of filled other)) (is_other_number row other differs)
      ∙ are other ∙ sym (ap (λ (w : ℕ). none_if (w == 0)) (get_or-set_other words row other word 0 differs))
]
  where
    turned : (b : Bool) → one_if (not b) ≡ none_if b
    turned true = refl
    turned false = refl

-- Words that have no bit are passed over.
pub none_passed : (words filled : List ℕ) (from at row : ℕ) → IsFilled words filled
    → ((position : ℕ) → at % 64 ≤ position → position < 64 → bit_at (get_or words (at / 64) 0) position ≡ 0)
    → ((other : ℕ) → at / 64 + 1 ≤ other → other < row → bit_of filled other ≡ 0)
    → NoneSet words from at → NoneSet words from (row * 64)
none_passed words filled from at row are none passed before number low high = elim (cases_lt number ((at / 64 + 1) * 64)) [
  | inl here ↦ none_later words from at none before number low here
  | inr past ↦
      ap (λ (w : ℕ). bit_at w (number % 64))
      (no_word (get_or words (number / 64) 0)
      (sym (are (number / 64)) ∙ passed (number / 64) (omega (arith, past)) (omega (arith, high))))
      ∙ bit_at-zero (number % 64)
]
  where
    no_word : (w : ℕ) → none_if (w == 0) ≡ 0 → w ≡ 0
    no_word w e = grind (arith, nat_tests)

-- The lowest number of a range whose bit is set, a word at a time: a word has none in the range, or
-- its lowest position that it has there is the answer.
use Rattle.std.proofs.Common.{◌≡◌, ◌<◌, ◌≤◌, ℕ, ◌+◌, ◌-◌, ◌*◌, ◌^◌, Bool, true, false, ◌&&◌, List, get_or, sym, ap, ◌∙◌}
use Rattle.std.proofs.Common.{inl, inr, arith, bit_and, w64}
use Rattle.std.specs.Prelude.{◌==◌, nat_lt, nat_le, Option, Some, None, IfNone}
use Rattle.std.specs.Int.{bit_at, trailing_zeros}
use Rattle.std.proofs.lemmas.Bool.{cases_lt}
use Rattle.std.proofs.lemmas.Bool.Decides.{nat_tests}
use Rattle.std.proofs.lemmas.Nat.Bits.{bit_at-zero, bit_at-trailing_zeros}
use Rattle.ms_commit.specs.Mask.{is_one, is_set}
use Rattle.ms_commit.proofs.RangeLemmas.{and_true}
use Rattle.ms_commit.proofs.MaskLemmas.{is_one-and, is_set-position}

-- The bits of a word in a range, and the range's bits of the word.
abbrev pub HasRange : ℕ → ℕ → ℕ → ℕ → Type 0
HasRange first end base between = (position : ℕ) → position < 64
    → is_one between position ≡ (nat_le first (base + position) && nat_lt (base + position) end)

-- No number of the range below an index's words is set.
abbrev pub NoneBelow : List ℕ → ℕ → ℕ → ℕ → Type 0
NoneBelow words first end index = (k : ℕ) → first ≤ k → k < end → k < 64 * index → is_set words k ≡ false

in_range : (words : List ℕ) (first end index between position : ℕ) → HasRange first end (64 * index) between → position < 64
    → first ≤ 64 * index + position → 64 * index + position < end
    → is_set words (64 * index + position) ≡ is_one (bit_and (get_or words index 0) between) position
in_range words first end index between position range within from below =
    is_set-position words index position within
    ∙ sym (is_one-and (get_or words index 0) between position
    ∙ and_true (is_one (get_or words index 0) position) (is_one between position)
    (range position within ∙ inside first (64 * index + position) end from below))
  where
    inside : (a k b : ℕ) → a ≤ k → k < b → (nat_le a k && nat_lt k b) ≡ true
    inside a k b h l = grind (arith, nat_tests)

-- A word without bits in the range.
pub none_more : (words : List ℕ) (first end index between : ℕ) → HasRange first end (64 * index) between
    → bit_and (get_or words index 0) between ≡ 0
    → NoneBelow words first end index → NoneBelow words first end (index + 1)
none_more words first end index between range none before k from below under = elim (cases_lt k (64 * index)) [
  | inl earlier ↦ before k from below earlier
  | inr here ↦
      let moved : k ≡ 64 * index + (k - 64 * index) = omega arith in
      ap (is_set words) moved
      ∙ in_range words first end index between (k - 64 * index) range (omega arith) (omega arith) (omega arith)
      ∙ ap (λ bits. is_one bits (k - 64 * index)) none ∙ ap (λ bit. bit == 1) (bit_at-zero (k - 64 * index))
]

-- A word with some: the lowest.
pub record IsLowestIn (words : List ℕ) (first end number : ℕ) : Type 0 where
  pub set : is_set words number ≡ true
  pub from : first ≤ number
  pub below : number < end
  pub lowest : (k : ℕ) → first ≤ k → k < number → is_set words k ≡ false

pub lowest_here : (words : List ℕ) (first end index between : ℕ) → HasRange first end (64 * index) between
    → 0 < bit_and (get_or words index 0) between
    → bit_and (get_or words index 0) between < 2 ^ 64 → NoneBelow words first end index
    → IsLowestIn words first end (64 * index + trailing_zeros w64 (bit_and (get_or words index 0) between))
lowest_here words first end index between range some fits before = record {
  set = in_range words first end index between position range lies.0 inside.0 inside.1 ∙ ap (λ bit. bit == 1) lies.1;
  from = inside.0;
  below = inside.1;
  lowest = λ k from under. elim (cases_lt k (64 * index)) [
    | inl earlier ↦ before k from (omega (arith, inside.1)) earlier
    | inr here ↦
        let moved : k ≡ 64 * index + (k - 64 * index) = omega arith in
        ap (is_set words) moved
        ∙ in_range words first end index between (k - 64 * index) range (omega (arith, lies.0)) (omega arith)
        (omega (arith, inside.1))
        ∙ ap (λ bit. bit == 1) (lies.2 (k - 64 * index) (omega arith))
  ];
}
  where
    bits : ℕ
    bits = bit_and (get_or words index 0) between

    position : ℕ
    position = trailing_zeros w64 bits

    lies : (position < 64) × (bit_at bits position ≡ 1) × ((i : ℕ) → i < position → bit_at bits i ≡ 0)
    lies = bit_at-trailing_zeros w64 bits some fits

    second : (a b : Bool) → (a && b) ≡ true → b ≡ true
    second true b e = e
    second false b e = absurd (cc)

    of_tests : (a k b : ℕ) → (nat_le a k && nat_lt k b) ≡ true → (a ≤ k) × (k < b)
    of_tests a k b e = (grind (arith, nat_tests), grind (arith, nat_tests))

    inside : (first ≤ 64 * index + position) × (64 * index + position < end)
    inside = of_tests first (64 * index + position) end
        (sym (range position lies.0)
        ∙ second (is_one (get_or words index 0) position) (is_one between position)
        (sym (is_one-and (get_or words index 0) between position) ∙ ap (λ bit. bit == 1) lies.1))

-- What holds where none is found.
pub IfNone_then : {X : Type 0} {P Q : Type 0} (r : Option X) → IfNone r P → (P → Q) → IfNone r Q
IfNone_then (Some x) none h = tt
IfNone_then None none h = h none

-- Bits of a word, and words of a mask: what `&`, `|` and `!` do to them, and what a changed word
-- does to the set that the mask stands for.
use Rattle.std.proofs.Common.{◌≡◌, ◌≢◌, ◌≤◌, ◌<◌, ℕ, ◌+◌, ◌-◌, ◌*◌, ◌/◌, ◌%◌, ◌^◌, Bool, true, false, ◌&&◌, ◌||◌, not}
use Rattle.std.proofs.Common.{List, length, get_or, refl, sym, ap, ap₂, ◌∙◌, inl, inr, arith, min, max, bit_and, bit_or}
use Rattle.std.proofs.Common.{w64}
use Rattle.std.specs.Prelude.{◌==◌, nat_lt, nat_le, slice_set}
use Rattle.std.specs.Int.{bit_at, bit_not, trailing_ones}
use Rattle.std.specs.List.{range_with_len}
use Rattle.std.proofs.lemmas.Bool.{cases_lt, cases_eq}
use Rattle.std.proofs.lemmas.Bool.Decides.{nat_tests}
use Rattle.std.proofs.lemmas.List.{get_or_past, get_or-set_same, get_or-set_other, length-set}
use Rattle.std.proofs.lemmas.Nat.Bits.{bit_at_and, bit_at_or, bit_at_not, bit_at-lt, bit_at-zero, bit_at_ones}
use Rattle.std.proofs.lemmas.Nat.Bits.{bit_at_ones_above, bit_at_mask_inside, bit_at_mask_below, bit_at-trailing_ones}
use Rattle.std.proofs.lemmas.Nat.Bits.{ones_shl, ones_shr}
use Rattle.ms_base.specs.Committed.{is_among}
use Rattle.ms_commit.specs.NumberSet.{is_in_range}
use Rattle.ms_commit.specs.Mask.{is_one, is_set, members_of, IsLowestClear}
use Rattle.ms_commit.proofs.RangeLemmas.{and_true, and_false, is_among-filter, is_among-range}

-- The bits of two words together.
pub is_one-and : (a b position : ℕ) → is_one (bit_and a b) position ≡ (is_one a position && is_one b position)
is_one-and a b position =
    ap (λ bit. bit == 1) (bit_at_and a b position)
    ∙ both (bit_at a position) (bit_at b position) (bit_at-lt a position) (bit_at-lt b position)
  where
    both : (x y : ℕ) → x < 2 → y < 2 → (min x y == 1) ≡ ((x == 1) && (y == 1))
    both x y h k = grind (arith, nat_tests)

pub is_one-or : (a b position : ℕ) → is_one (bit_or a b) position ≡ (is_one a position || is_one b position)
is_one-or a b position =
    ap (λ bit. bit == 1) (bit_at_or a b position)
    ∙ some (bit_at a position) (bit_at b position) (bit_at-lt a position) (bit_at-lt b position)
  where
    some : (x y : ℕ) → x < 2 → y < 2 → (max x y == 1) ≡ ((x == 1) || (y == 1))
    some x y h k = grind (arith, nat_tests)

pub is_one-not : (a position : ℕ) → a < 2 ^ 64 → position < 64 → is_one (bit_not w64 a) position ≡ not (is_one a position)
is_one-not a position fits within =
    ap (λ bit. bit == 1) (bit_at_not w64 a position fits within) ∙ other (bit_at a position) (bit_at-lt a position)
  where
    other : (x : ℕ) → x < 2 → (1 - x == 1) ≡ not (x == 1)
    other x h = grind (arith, nat_tests)

-- `MAX << low & MAX >> 64 - high` has the bits from low up to high.
pub is_one-between : (low high position : ℕ) → low < high → high ≤ 64 → position < 64
    → is_one (bit_and ((2 ^ 64 - 1) * 2 ^ low % 2 ^ 64) ((2 ^ 64 - 1) / 2 ^ (64 - high))) position
    ≡ (nat_le low position && nat_lt position high)
is_one-between low high position rise within at =
    is_one-and ((2 ^ 64 - 1) * 2 ^ low % 2 ^ 64) ((2 ^ 64 - 1) / 2 ^ (64 - high)) position
    ∙ ap₂ (λ a b. is_one a position && is_one b position) (ones_shl 64 low (omega arith))
    (ones_shr 64 (64 - high) (omega arith) ∙ ap (λ n. 2 ^ n - 1) back)
    ∙ ap₂ (λ a b. a && b) from_low below_high
  where
    back : 64 - (64 - high) ≡ high
    back = omega arith

    from_low : is_one (2 ^ 64 - 2 ^ low) position ≡ nat_le low position
    from_low = elim (cases_lt position low) [
      | inl under ↦ ap (λ bit. bit == 1) (bit_at_mask_below low 64 position under) ∙ grind (arith, nat_tests)
      | inr over ↦ ap (λ bit. bit == 1) (bit_at_mask_inside low 64 position over at) ∙ grind (arith, nat_tests)
    ]

    below_high : is_one (2 ^ high - 1) position ≡ nat_lt position high
    below_high = elim (cases_lt position high) [
      | inl under ↦ ap (λ bit. bit == 1) (bit_at_ones high position under) ∙ grind (arith, nat_tests)
      | inr over ↦ ap (λ bit. bit == 1) (bit_at_ones_above high position over) ∙ grind (arith, nat_tests)
    ]

-- The numbers of a word are those of its positions, moved up.
pub is_set-position : (words : List ℕ) (index position : ℕ) → position < 64
    → is_set words (64 * index + position) ≡ is_one (get_or words index 0) position
is_set-position words index position within =
    let row : (64 * index + position) / 64 ≡ index = omega arith in
    let column : (64 * index + position) % 64 ≡ position = omega arith in
    ap₂ (λ at spot. is_one (get_or words at 0) spot) row column

-- A word of a mask is changed: its numbers have their bits in the new word, the others as before.
pub is_set-here : (words : List ℕ) (index word k : ℕ) → index < length words → k / 64 ≡ index
    → is_set (slice_set words index word) k ≡ is_one word (k % 64)
is_set-here words index word k within here =
    ap (λ at. is_one (get_or (slice_set words index word) at 0) (k % 64)) here
    ∙ ap (λ w. is_one w (k % 64)) (get_or-set_same words index word 0 within)

pub is_set-other : (words : List ℕ) (index word k : ℕ) → k / 64 ≢ index
    → is_set (slice_set words index word) k ≡ is_set words k
is_set-other words index word k elsewhere =
    ap (λ w. is_one w (k % 64)) (get_or-set_other words index (k / 64) word 0 elsewhere)

-- One more word of a mask is changed, in the positions of numbers that pass.
pub changed_more : (op : Bool → Bool → Bool) (p : ℕ → Bool) (old new : List ℕ) (index word : ℕ)
    → ((b : Bool) → op b false ≡ b) → index < length new
    → ((position : ℕ) → position < 64 → is_one word position ≡ op (is_one (get_or new index 0) position) (p (64 * index + position)))
    → ((k : ℕ) → k < 64 * length new → is_set new k ≡ op (is_set old k) (p k && nat_lt k (64 * index)))
    → (k : ℕ) → k < 64 * length (slice_set new index word)
    → is_set (slice_set new index word) k ≡ op (is_set old k) (p k && nat_lt k (64 * (index + 1)))
changed_more op p old new index word stays within positions so_far k inside = elim (cases_eq (k / 64) index) [
  | inl here ↦
      is_set-here new index word k within here
      ∙ positions (k % 64) (omega arith)
      ∙ ap₂ op (ap (λ at. is_one (get_or new at 0) (k % 64)) (sym here) ∙ so_far k unchanged
      ∙ ap (op (is_set old k)) (and_false (p k) (nat_lt k (64 * index)) (grind (arith, nat_tests)))
      ∙ stays (is_set old k)) (let e : 64 * index + k % 64 ≡ k = omega arith in ap p e)
      ∙ ap (op (is_set old k)) (passes (p k) (nat_lt k (64 * (index + 1))) (grind (arith, nat_tests)))
  | inr elsewhere ↦
      is_set-other new index word k elsewhere
      ∙ so_far k unchanged
      ∙ ap (λ b. op (is_set old k) (p k && b)) (same_side k index elsewhere)
]
  where
    unchanged : k < 64 * length new
    unchanged = let e : length (slice_set new index word) ≡ length new = length-set new index word in omega arith

    passes : (a b : Bool) → b ≡ true → a ≡ (a && b)
    passes true b e = sym e
    passes false b e = refl

    same_side : (k index : ℕ) → k / 64 ≢ index → nat_lt k (64 * index) ≡ nat_lt k (64 * (index + 1))
    same_side k index elsewhere = grind (arith, nat_tests)

-- No number past a mask is set.
pub is_set-past : (words : List ℕ) (k : ℕ) → 64 * length words ≤ k → is_set words k ≡ false
is_set-past words k past =
    ap (λ w. is_one w (k % 64)) (get_or_past words (k / 64) 0 (omega arith))
    ∙ ap (λ bit. bit == 1) (bit_at-zero (k % 64))

-- A mask's members are the numbers that are set.
pub is_among-members : (words : List ℕ) (k : ℕ) → is_among (members_of words) k ≡ is_set words k
is_among-members words k =
    is_among-filter (is_set words) (range_with_len 0 (64 * length words)) k
    ∙ ap (λ b. is_set words k && b) (is_among-range 0 (64 * length words) k)
    ∙ elim (cases_lt k (64 * length words)) [
      | inl under ↦ and_true (is_set words k) (is_in_range 0 (64 * length words) k) (grind (arith, nat_tests))
      | inr past ↦ rw (is_set-past words k past) refl
    ]

-- The words below an index have no clear bit, and the word there has none, or one.
pub full_more : (words : List ℕ) (index : ℕ) → get_or words index 0 ≡ 2 ^ 64 - 1
    → ((k : ℕ) → k < 64 * index → is_set words k ≡ true)
    → (k : ℕ) → k < 64 * (index + 1) → is_set words k ≡ true
full_more words index full before k under = elim (cases_lt k (64 * index)) [
  | inl earlier ↦ before k earlier
  | inr here ↦
      let row : k / 64 ≡ index = omega arith in
      ap (λ at. is_one (get_or words at 0) (k % 64)) row ∙ ap (λ word. is_one word (k % 64)) full
      ∙ ap (λ bit. bit == 1) (bit_at_ones 64 (k % 64) (omega arith))
]

pub lowest_in_word : (words : List ℕ) (index : ℕ) → index < length words → get_or words index 0 + 1 < 2 ^ 64
    → ((k : ℕ) → k < 64 * index → is_set words k ≡ true)
    → IsLowestClear words (64 * index + trailing_ones w64 (get_or words index 0))
lowest_in_word words index within fits before = record {
  within = omega (arith, position.0);
  clear = is_set-position words index (trailing_ones w64 word) position.0 ∙ ap (λ bit. bit == 1) position.1;
  below = λ k under. elim (cases_lt k (64 * index)) [
    | inl earlier ↦ before k earlier
    | inr here ↦
        let moved : k ≡ 64 * index + (k - 64 * index) = omega arith in
        ap (is_set words) moved ∙ is_set-position words index (k - 64 * index) (omega (arith, position.0))
        ∙ ap (λ bit. bit == 1) (position.2 (k - 64 * index) (omega arith))
  ];
}
  where
    word : ℕ
    word = get_or words index 0

    position : (trailing_ones w64 word < 64) × (bit_at word (trailing_ones w64 word) ≡ 0)
        × ((i : ℕ) → i < trailing_ones w64 word → bit_at word i ≡ 1)
    position = bit_at-trailing_ones w64 word fits

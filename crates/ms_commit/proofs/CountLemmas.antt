-- Counting the set bits of a word is counting the positions of its bits.
use Rattle.std.proofs.Common.{◌≡◌, ◌<◌, ◌≤◌, ℕ, zero, suc, ◌+◌, ◌*◌, ◌/◌, ◌%◌, ◌^◌, Bool, true, false, cond, ◌&&◌, List, ◌∷◌}
use Rattle.std.proofs.Common.{length, get_or, bit_and, refl, sym, ap, ap₂, ◌∙◌, arith}
use Rattle.std.specs.Prelude.{◌==◌, nat_le, nat_lt}
use Rattle.std.proofs.lemmas.Bool.Decides.{nat_tests}
use Rattle.std.specs.Int.{bit_at}
use Rattle.std.specs.Int.Count.{ones, ones_step}
use Rattle.std.specs.List.{filter, range_with_len}
use Rattle.std.proofs.lemmas.Nat.{pow-add, and_le_r}
use Rattle.std.proofs.lemmas.List.{length-append}
use Rattle.std.proofs.lemmas.Nat.Bits.{bit_at_lowest, bit_at-suc}
use Rattle.ms_commit.specs.Mask.{is_one, is_set}
use Rattle.ms_commit.proofs.RangeLemmas.{and_false, filter-cut, filter_agree_in, filter_none_in, length-filter-below}
use Rattle.ms_commit.proofs.MaskLemmas.{is_one-and, is_set-position}

pub length-kept : {X : Type 0} (b : Bool) (x : X) (rest : List X)
    → length (cond b (x ∷ rest) rest) ≡ cond b 1 0 + length rest
length-kept b x rest =
    elim b as (λ v. length (cond v (x ∷ rest) rest) ≡ cond v 1 0 + length rest) [
      | true ↦ omega arith
      | false ↦ omega arith
    ]

-- To count in a range is to count in the range moved down.
pub count_moved : (p : ℕ → Bool) (by a n : ℕ)
    → length (filter p (range_with_len (by + a) n)) ≡ length (filter (λ k. p (by + k)) (range_with_len a n))
count_moved p by a zero = refl
count_moved p by a (suc n) =
    let e : by + a + 1 ≡ by + (a + 1) = omega arith in
    length-kept (p (by + a)) (by + a) (filter p (range_with_len (by + a + 1) n))
    ∙ ap (λ first. cond (p (by + a)) 1 0 + length (filter p (range_with_len first n))) e
    ∙ ap (λ rest. cond (p (by + a)) 1 0 + rest) (count_moved p by (a + 1) n)
    ∙ sym (length-kept (p (by + a)) a (filter (λ k. p (by + k)) (range_with_len (a + 1) n)))

lowest_counted : (word : ℕ) → cond (is_one word 0) 1 0 ≡ word % 2
lowest_counted word = ap (λ bit. cond (bit == 1) 1 0) (bit_at_lowest word) ∙ small (word % 2) (omega arith)
  where
    small : (bit : ℕ) → bit < 2 → cond (bit == 1) 1 0 ≡ bit
    small bit h = grind arith

no_ones : ones 0 ≡ 0
unfolding ones
no_ones = refl

-- A word's set bits are counted position by position.
pub ones_are_counted : (positions word : ℕ) → word < 2 ^ positions
    → ones word ≡ length (filter (is_one word) (range_with_len 0 positions))
ones_are_counted zero word h = let e : word ≡ 0 = omega arith in ap ones e ∙ no_ones
ones_are_counted (suc positions) word h =
    ones_step word
    ∙ ap₂ (λ first rest. first + rest) (sym (lowest_counted word)) (ones_are_counted positions (word / 2) halved ∙ moved)
    ∙ sym (length-kept (is_one word 0) 0 (filter (is_one word) (range_with_len 1 positions)))
  where
    halved : word / 2 < 2 ^ positions
    halved = let e : suc positions ≡ positions + 1 = omega arith in omega (arith, pow-add 2 positions 1, ap (λ n. 2 ^ n) e)

    next : (k : ℕ) → bit_at (word / 2) k ≡ bit_at word (1 + k)
    next k = let e : suc k ≡ 1 + k = omega arith in sym (bit_at-suc word k) ∙ ap (bit_at word) e

    moved : length (filter (is_one (word / 2)) (range_with_len 0 positions))
        ≡ length (filter (is_one word) (range_with_len 1 positions))
    moved =
        ap length (filter_agree_in (is_one (word / 2)) (λ k. is_one word (1 + k)) 0 positions
        (λ k low high. ap (λ bit. bit == 1) (next k)))
        ∙ sym (count_moved (is_one word) 1 0 positions)

-- One more word is counted: the bits of a word that stand for numbers that pass.
pub counted_more : (p : ℕ → Bool) (words : List ℕ) (index run count : ℕ) → run < 2 ^ 64
    → ((position : ℕ) → position < 64 → is_one run position ≡ p (64 * index + position))
    → count ≡ length (filter (λ k. is_set words k && p k) (range_with_len 0 (64 * index)))
    → count + ones (bit_and (get_or words index 0) run)
    ≡ length (filter (λ k. is_set words k && p k) (range_with_len 0 (64 * (index + 1))))
counted_more p words index run count fits positions so_far =
    ap₂ (λ below here. below + here) so_far
    (ones_are_counted 64 word small ∙ ap length agree ∙ sym (count_moved q (64 * index) 0 64)
    ∙ ap (λ a. length (filter q (range_with_len a 64))) from)
    ∙ sym (length-append (filter q (range_with_len 0 (64 * index))) (filter q (range_with_len (64 * index) 64)))
    ∙ ap length (sym (filter-cut q 0 (64 * index) 64 (64 * index) (omega arith))
    ∙ ap (λ n. filter q (range_with_len 0 n)) next)
  where
    q : ℕ → Bool
    q k = is_set words k && p k

    word : ℕ
    word = bit_and (get_or words index 0) run

    small : word < 2 ^ 64
    small = omega (arith, and_le_r (get_or words index 0) run)

    agree : filter (is_one word) (range_with_len 0 64) ≡ filter (λ k. q (64 * index + k)) (range_with_len 0 64)
    agree = filter_agree_in (is_one word) (λ k. q (64 * index + k)) 0 64
        (λ k low high. is_one-and (get_or words index 0) run k
        ∙ ap₂ (λ a b. a && b) (sym (is_set-position words index k (omega arith))) (positions k (omega arith)))

    from : 64 * index + 0 ≡ 64 * index
    from = omega arith

    next : 64 * index + 64 ≡ 64 * (index + 1)
    next = omega arith

-- How many numbers of a range are set, of those below a position.
abbrev pub set_within : List ℕ → ℕ → ℕ → ℕ → ℕ
set_within words first end position =
    length (filter (λ k. is_set words k && (nat_le first k && nat_lt k end)) (range_with_len 0 position))

pub none_within : (words : List ℕ) (first end : ℕ) → 0 ≡ set_within words first end (64 * (first / 64))
none_within words first end =
    ap length (sym (filter_none_in (λ k. is_set words k && (nat_le first k && nat_lt k end)) 0 (64 * (first / 64))
    (λ k low high. and_false (is_set words k) (nat_le first k && nat_lt k end) (grind (arith, nat_tests)))))

pub within_below : (words : List ℕ) (first end position : ℕ) → set_within words first end position ≤ end
within_below words first end position =
    length-filter-below (λ k. is_set words k && (nat_le first k && nat_lt k end)) position end
    (λ k past. and_false (is_set words k) (nat_le first k && nat_lt k end) (grind (arith, nat_tests)))

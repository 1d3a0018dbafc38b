use Rattle.std.proofs.Common.{Bool, ◌≡◌, ℕ, ◌*◌, ◌/◌, ◌+◌, ◌-◌, ◌^◌, ◌&&◌, not, bit_and, true, false, refl, get_or, ap, ◌∙◌, length, arith}
use Rattle.std.specs.Prelude.{nat_le, nat_lt}
use Rattle.std.specs.Int.Count.{ones}
use Rattle.std.proofs.lemmas.Bool.Decides.{nat_tests}
use Rattle.std.proofs.lemmas.List.{get_or-set_other}
use Rattle.ms_commit.specs.Mask.{is_one, is_set}
use Rattle.ms_commit.proofs.RangeLemmas.{filter-window}
use Rattle.ms_commit.proofs.MaskLemmas.{is_one-and, is_one-not, is_set-past, changed_more}
use Rattle.ms_commit.proofs.CountLemmas.{counted_more, none_within, set_within, within_below}
use Rattle.ms_commit.proofs.mask.clear_bits.Goals as goal
use Rattle.ms_commit.proofs.mask.clear_bits.Goals.{After-bits_between-bits}

pub loop-index-init : goal.loop-index-init
loop-index-init c = record {
  clear = λ k inside. rw (none_passed k) (by_and (is_set c.args.words.now k));
  left = λ row low. refl;
  counted = none_within c.args.words.now c.args.first c.args.end;
}
  where
    none_passed : (k : ℕ) → (nat_le c.args.first k && nat_lt k c.args.end && nat_lt k (64 * (c.args.first / 64))) ≡ false
    none_passed k = grind (arith, nat_tests)

    by_and : (b : Bool) → b ≡ (b && not false)
    by_and true = refl
    by_and false = refl

-- The word that was reached is as it was.
counted_here : (c : After-bits_between-bits)
    → c.loop-index.count + ones (bit_and (get_or c.loop-index.words c.loop-index.index 0) c.bits_between-bits.result)
    ≡ set_within c.args.words.now c.args.first c.args.end (64 * (c.loop-index.index + 1))
counted_here c =
    ap (λ (word : ℕ). c.loop-index.count + ones (bit_and word c.bits_between-bits.result))
    (c.loop-index.invariant.left c.loop-index.index (omega arith))
    ∙ counted_more (λ k. nat_le c.args.first k && nat_lt k c.args.end) c.args.words.now c.loop-index.index
    c.bits_between-bits.result c.loop-index.count
    (omega arith) c.bits_between-bits.ensures c.loop-index.invariant.counted

pub loop-index-preserved : goal.loop-index-preserved
loop-index-preserved c =
    let word = get_or c.loop-index.words c.loop-index.index 0 in
    record {
      clear = changed_more (λ a b. a && not b)
          (λ k. nat_le c.args.first k && nat_lt k c.args.end) c.args.words.now c.loop-index.words c.loop-index.index _
          (λ b. elim b as (λ v. (v && not false) ≡ v) [ true ↦ refl | false ↦ refl ]) (omega arith)
          (λ position within. is_one-and word (2 ^ 64 - 1 - c.bits_between-bits.result) position
          ∙ ap (λ b. is_one word position && b) (is_one-not c.bits_between-bits.result position (omega arith) within
          ∙ ap not (c.bits_between-bits.ensures position within)))
          c.loop-index.invariant.clear;
      left = λ row low.
          get_or-set_other c.loop-index.words c.loop-index.index row _ 0 (λ e. absurd (omega (arith, low, e)))
          ∙ c.loop-index.invariant.left row (omega (arith, low));
      counted = counted_here (goal.at.loop-index-preserved c).After-bits_between-bits;
    }

pub overflow_add-count : goal.overflow_add-count
overflow_add-count c =
    omega (
      arith,
      counted_here (goal.at.overflow_add-count c).After-bits_between-bits,
      within_below c.args.words.now c.args.first c.args.end (64 * (c.loop-index.index + 1)),
    )

pub returns-clause-count : goal.returns-clause-count
returns-clause-count c =
    c.loop-index.invariant.counted
    ∙ ap length (filter-window (is_set c.args.words.now) c.args.first c.args.end (64 * c.loop-index.index)
    (λ k past from under. is_set-past c.args.words.now k (omega arith)))

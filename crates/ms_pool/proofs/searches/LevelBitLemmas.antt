-- The bits of levels: which are clear beside the one that is found, and at which levels a free part
-- may grant a wish. `lowest_level`, `highest_level`, `small_levels` and `levels_for` use these.
use Rattle.std.proofs.Common.{◌≡◌, ◌<◌, ◌≤◌, ℕ, suc, ◌+◌, ◌-◌, ◌*◌, ◌/◌, ◌%◌, ◌^◌, ◌==◌, Bool, true, false, bit_and}
use Rattle.std.proofs.Common.{min, refl, sym, ap, ap₂, subst, ◌∙◌, inl, inr, arith, w16, eqb-true, None}
use Rattle.std.specs.Int.{bit_at, trailing_zeros}
use Rattle.std.specs.Int.Count.{count_leading_zeros}
use Rattle.std.proofs.lemmas.Bool.{cases_lt, false≢true}
use Rattle.std.proofs.lemmas.Nat.{and_mask, leading_top, one_shl, pow_pos, shr-shr, shr_le}
use Rattle.std.proofs.lemmas.Nat.Bits.{bit_at-lt, bit_at-trailing_zeros, bit_at-zero, bit_at_above, bit_at_and}
use Rattle.std.proofs.lemmas.Nat.Bits.{bit_at_mask_inside, bit_at_ones}
use Rattle.std.proofs.Math.Nat.{mod-lt}
use Rattle.std.proofs.Math.Pow.{pow-lt, pow_mono}
use Rattle.ms_base.specs.declared.kind.Space.{Space}
use Rattle.ms_base.specs.Level.{size_of}
use Rattle.ms_base.specs.Policy.{granule_of, keeps}
use Rattle.ms_buddy.specs.Leaves.{has_level}
use Rattle.ms_pool.specs.declared.lender.Lender.{Lender}
use Rattle.ms_pool.specs.Ledger.{state_in}
use Rattle.ms_pool.specs.Keeping.{IsKept, ledger_of}
use Rattle.ms_pool.specs.Searching.{first_at}
use Rattle.ms_pool.specs.Trees.{LeaveNone}
use Rattle.ms_pool.proofs.searches.BySizeLemmas.{large_are_not}
use Rattle.ms_pool.proofs.searches.SkipLemmas.{none_of_space}

bit_clear : (levels level : ℕ) → bit_at levels level ≡ 0 → has_level levels level ≡ false
bit_clear levels level e = ap (λ (b : ℕ). b == 1) e

-- No bit is set from a level on where none is left once they are moved down, nor below the lowest
-- then.
bit_from : (levels from level : ℕ) → from ≤ level → bit_at levels level ≡ bit_at (levels / 2 ^ from) (level - from)
bit_from levels from level low =
    let moved : level ≡ from + (level - from) = omega arith in
    ap (bit_at levels) moved ∙ sym (ap (λ (n : ℕ). n % 2) (shr-shr levels from (level - from)))

pub none_from : (levels from level : ℕ) → levels / 2 ^ from ≡ 0 → from ≤ level → has_level levels level ≡ false
none_from levels from level none low =
    bit_clear levels level
    (bit_from levels from level low ∙ ap (λ (n : ℕ). bit_at n (level - from)) none ∙ bit_at-zero (level - from))

pub none_before : (levels from level : ℕ) → 0 < levels / 2 ^ from → levels < 2 ^ 16 → from ≤ level
    → level < from + trailing_zeros w16 (levels / 2 ^ from) → has_level levels level ≡ false
none_before levels from level some fits low high =
    bit_clear levels level
    (bit_from levels from level low
    ∙ (bit_at-trailing_zeros w16 (levels / 2 ^ from) some (omega (arith, fits, shr_le levels from))).2 (level - from)
    (omega (arith, low, high)))

-- The levels below one are a remainder.
below_end : (levels end : ℕ) → end ≤ 13 → levels % (1 * 2 ^ end % 2 ^ 16) ≡ levels % 2 ^ end
below_end levels end few = ap (λ (m : ℕ). levels % m) (one_shl end 16 (omega (arith, few)))

bit_below : (levels end level : ℕ) → level < end → bit_at levels level ≡ bit_at (levels % 2 ^ end) level
bit_below levels end level low =
    sym (ap (λ (n : ℕ). bit_at n level) (sym (and_mask levels end))
    ∙ bit_at_and levels (2 ^ end - 1) level
    ∙ ap (min (bit_at levels level)) (bit_at_ones end level low)
    ∙ least (bit_at levels level) (bit_at-lt levels level))
  where
    least : (b : ℕ) → b < 2 → min b 1 ≡ b
    least b few = omega (arith, few)

pub none_below : (levels end level : ℕ) → end ≤ 13 → levels % (1 * 2 ^ end % 2 ^ 16) ≡ 0 → level < end
    → has_level levels level ≡ false
none_below levels end level few none low =
    bit_clear levels level
    (bit_below levels end level low
    ∙ ap (λ (n : ℕ). bit_at n level) (sym (below_end levels end few) ∙ none) ∙ bit_at-zero level)

-- The highest level below one: no bit is set between.
pub record IsHighestBelow (levels end found : ℕ) : Type 0 where
  pub below : found < end
  pub above : (level : ℕ) → found < level → level < end → has_level levels level ≡ false

pub highest_below : (levels end : ℕ) → end ≤ 13 → 0 < levels % (1 * 2 ^ end % 2 ^ 16)
    → IsHighestBelow levels end (15 - count_leading_zeros 16 (levels % (1 * 2 ^ end % 2 ^ 16)))
highest_below levels end few some =
    subst (λ (n : ℕ). IsHighestBelow levels end (15 - count_leading_zeros 16 n)) (sym (below_end levels end few))
    (subst (IsHighestBelow levels end) (sym index) (record {
      below = elim (cases_lt top.0 end) [
        | inl low ↦ low
        | inr high ↦ absurd (omega (arith, top.2, under, pow_mono high))
      ];
      above = λ level past low. bit_clear levels level (bit_below levels end level low
          ∙ bit_at_above (levels % 2 ^ end) (suc top.0) level top.3 (omega (arith, past)));
    }))
  where
    under : levels % 2 ^ end < 2 ^ end
    under = mod-lt levels (pow_pos end)

    power_fits : 2 ^ end < 2 ^ 16
    power_fits = pow-lt {i = end} {j = 16} (omega (arith, few))

    top : (j : ℕ) × (count_leading_zeros 16 (levels % 2 ^ end) + suc j ≡ 16) × (2 ^ j ≤ levels % 2 ^ end)
        × (levels % 2 ^ end < 2 ^ suc j)
    top = leading_top 16 (levels % 2 ^ end)
        (subst (λ (n : ℕ). 0 < n) (below_end levels end few) some)
        (omega (arith, under, power_fits))

    index : 15 - count_leading_zeros 16 (levels % 2 ^ end) ≡ top.0
    index = omega (arith, top.1)

-- A level whose bit is clear among those from one on lies below it.
pub below_small : (low level : ℕ) → level < 16 → has_level (2 ^ 16 - 2 ^ low) level ≡ false → level < low
below_small low level few clear = elim (cases_lt level low) [
  | inl below ↦ below
  | inr from ↦ absurd (false≢true (sym clear ∙ ap (λ (b : ℕ). b == 1) (bit_at_mask_inside low 16 level from few)))
]

-- Unless the policy keeps what was committed, no part of a granule or more is committed enough.
pub no_large_one : (space : Space) (lender : Lender) (levels small words level : ℕ) → IsKept lender → 1 ≤ words
    → words ≤ size_of level → LeaveNone levels space lender.trees.items → levels < 2 ^ 16
    → keeps lender.policy ≡ false
    → ((other : ℕ) → other < 16 → has_level small other ≡ false → granule_of lender.policy ≤ size_of other)
    → has_level (bit_and levels small) level ≡ false
    → first_at (state_in space (ledger_of lender)) words true level ≡ None
unfolding first_at
no_large_one space lender levels small words level kept some fits told few gives large clear =
    by_bit (has_level levels level) refl
  where
    both : (a b : ℕ) → (a == 1) ≡ true → (b == 1) ≡ true → (min a b == 1) ≡ true
    both a b e f = ap₂ (λ x y. min x y == 1) (eqb-true a 1 e) (eqb-true b 1 f)

    is_low : has_level levels level ≡ true → level < 16
    is_low set = elim (cases_lt level 16) [
      | inl low ↦ low
      | inr high ↦ absurd (false≢true (sym (bit_clear levels level (bit_at_above levels 16 level few high)) ∙ set))
    ]

    is_large : (b : Bool) → has_level small level ≡ b → has_level levels level ≡ true → has_level small level ≡ false
    is_large false e set = e
    is_large true e set = absurd (false≢true (sym clear ∙ ap (λ (n : ℕ). n == 1) (bit_at_and levels small level)
        ∙ both (bit_at levels level) (bit_at small level) set e))

    by_bit : (b : Bool) → has_level levels level ≡ b
        → first_at (state_in space (ledger_of lender)) words true level ≡ None
    by_bit false e = none_of_space space lender levels words true level kept some fits told e
    by_bit true e = large_are_not (state_in space (ledger_of lender)) words level (kept.sound.spaces space) some fits
        (large level (is_low e) (is_large (has_level small level) refl e)) gives

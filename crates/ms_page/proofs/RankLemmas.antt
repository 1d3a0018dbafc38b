-- The order of loaders by size: it has all of them, and none comes before the one in front of it. `laws`
-- uses this.
use Rattle.std.proofs.Common.{◌≡◌, ◌<◌, ◌+◌, ◌==◌, ◌&&◌, ◌||◌, ℕ, zero, suc, Bool, true, false, List, [], ◌∷◌, ◌++◌}
use Rattle.std.proofs.Common.{length, get_or, refl, sym, subst, arith, if◌then◌else◌}
use Rattle.std.specs.Prelude.{nat_lt}
use Rattle.std.specs.List.{fold}
use Rattle.std.specs.List.Sorted.{IsPermutation}
use Rattle.std.proofs.lemmas.Bool.Decides.{nat_tests}
use Rattle.std.proofs.lemmas.List.{append-nil}
use Rattle.std.proofs.lemmas.List.Sorted.{IsPermutation-append_left, IsPermutation-insert, IsPermutation-middle, IsPermutation-refl, IsPermutation-trans}
use Rattle.ms_page.specs.declared.holding.Holding.{Holding}
use Rattle.ms_page.specs.Largest.{comes_before, position_of, ranked_of, ranked_with}
use Rattle.ms_page.specs.Laws.{IsRanking}
use Rattle.ms_page.proofs.LargestLemmas.{put_is}

-- All of them.
with_all : (holding : Holding) (ranked : List Holding) → IsPermutation (holding ∷ ranked) (ranked_with holding ranked)
with_all holding ranked =
    subst (λ (l : List Holding). IsPermutation (holding ∷ ranked) l) (put_is holding ranked)
    (IsPermutation-insert ranked (position_of holding ranked) holding)

abbrev put : List Holding → Holding → List Holding
put ranked holding = ranked_with holding ranked

all_from : (ranked holdings : List Holding) → IsPermutation (ranked ++ holdings) (fold put ranked holdings)
all_from ranked [] =
    subst (λ (l : List Holding). IsPermutation l ranked) (sym (append-nil ranked)) (IsPermutation-refl ranked)
all_from ranked (holding ∷ holdings) =
    IsPermutation-trans (ranked ++ holding ∷ holdings) (holding ∷ (ranked ++ holdings))
    (fold put (ranked_with holding ranked) holdings) (IsPermutation-middle ranked holding holdings)
    (IsPermutation-trans (holding ∷ (ranked ++ holdings)) (ranked_with holding ranked ++ holdings)
    (fold put (ranked_with holding ranked) holdings)
    (IsPermutation-append_left holdings (holding ∷ ranked) (ranked_with holding ranked) (with_all holding ranked))
    (all_from (ranked_with holding ranked) holdings))

-- In order: the first of those behind a loader doesn't come before it.
abbrev IsBehind : Holding → List Holding → Type 0
IsBehind holding [] = Unit {0}
IsBehind holding (other ∷ others) = comes_before other holding ≡ false

abbrev IsRanked : List Holding → Type 0
IsRanked [] = Unit {0}
IsRanked (holding ∷ holdings) = IsBehind holding holdings × IsRanked holdings

numbers_turn : (more fewer name other : ℕ)
    → (nat_lt fewer more || more == fewer && nat_lt name other) ≡ true
    → (nat_lt more fewer || fewer == more && nat_lt other name) ≡ false
numbers_turn more fewer name other before = grind (arith, nat_tests)

turned : (one other : Holding) → comes_before one other ≡ true → comes_before other one ≡ false
turned one other before = numbers_turn one.capacity other.capacity one.name other.name before

behind_by : (holding one other : Holding) (others : List Holding) (before : Bool)
    → comes_before one holding ≡ true → comes_before other one ≡ false
    → IsBehind one (if before then other ∷ ranked_with holding others else holding ∷ other ∷ others)
behind_by holding one other others true first behind = behind
behind_by holding one other others false first behind = turned one holding first

behind_with : (holding one : Holding) (others : List Holding) → comes_before one holding ≡ true → IsBehind one others
    → IsBehind one (ranked_with holding others)
behind_with holding one [] first behind = turned one holding first
behind_with holding one (other ∷ others) first behind =
    behind_by holding one other others (comes_before other holding) first behind

ranked_by : (holding other : Holding) (others : List Holding) (before : Bool) → comes_before other holding ≡ before
    → IsRanked (other ∷ others) → IsRanked (ranked_with holding others)
    → IsRanked (if before then other ∷ ranked_with holding others else holding ∷ other ∷ others)
ranked_by holding other others true before its later = (behind_with holding other others before its.0, later)
ranked_by holding other others false before its later = (before, its)

with_ranked : (holding : Holding) (ranked : List Holding) → IsRanked ranked → IsRanked (ranked_with holding ranked)
with_ranked holding [] its = (tt, tt)
with_ranked holding (other ∷ others) its =
    ranked_by holding other others (comes_before other holding) refl its (with_ranked holding others its.1)

order_from : (ranked holdings : List Holding) → IsRanked ranked → IsRanked (fold put ranked holdings)
order_from ranked [] its = its
order_from ranked (holding ∷ holdings) its =
    order_from (ranked_with holding ranked) holdings (with_ranked holding ranked its)

-- The same by position.
by_position : (ranked : List Holding) → IsRanked ranked → (position : ℕ) (other : Holding) → suc position < length ranked
    → comes_before (get_or ranked (suc position) other) (get_or ranked position other) ≡ false
by_position [] its position other within = absurd (omega (arith, within))
by_position (one ∷ []) its position other within = absurd (omega (arith, within))
by_position (one ∷ next ∷ others) its zero other within = its.0
by_position (one ∷ next ∷ others) its (suc position) other within =
    by_position (next ∷ others) its.1 position other (omega (arith, within))

pub is_ranking : (holdings : List Holding) → IsRanking holdings (ranked_of holdings)
is_ranking holdings = record {
  all = all_from [] holdings;
  order = λ position other low within.
      let next : suc position ≡ position + 1 = omega arith in
      subst (λ (n : ℕ).
      comes_before (get_or (ranked_of holdings) n other) (get_or (ranked_of holdings) position other) ≡ false) next
      (by_position (ranked_of holdings) (order_from [] holdings tt) position other (omega (arith, within)));
}

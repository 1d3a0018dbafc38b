-- The granules of the two spaces: how a rising list is cut into both, and what a range or a slot
-- that comes or goes does to each. For the laws on spaces and the crates above.
use Rattle.std.proofs.Common.{◌≡◌, ◌≤◌, ◌<◌, ℕ, ◌+◌, ◌*◌, ◌/◌, Bool, true, false, cond, ◌&&◌, ◌||◌, not, List, [], ◌∷◌}
use Rattle.std.proofs.Common.{◌++◌, length, refl, sym, ap, ap₂, ◌∙◌, inl, inr, arith}
use Rattle.std.specs.Prelude.{nat_lt, nat_le}
use Rattle.std.specs.List.{AllByRecursion, filter, range_with_len}
use Rattle.std.specs.List.Sorted.{IsStrictlyIncreasing, IsStrictlySortedBy}
use Rattle.std.specs.Ordering.{nat_cmp}
use Rattle.std.specs.declared.cmp.Ordering.TheVariants.{Less}
use Rattle.std.proofs.Math.Bool.{and_comm}
use Rattle.std.proofs.Math.Nat.{div-lt_iff_lt-mul}
use Rattle.std.proofs.lemmas.Bool.{false≢true, cases_lt, and_parts}
use Rattle.std.proofs.lemmas.Bool.Decides.{nat_tests}
use Rattle.std.proofs.lemmas.List.{append-nil}
use Rattle.std.proofs.lemmas.List.Elements.{filter-append, filter_agree}
use Rattle.std.proofs.lemmas.List.Filters.{length-filter_both}
use Rattle.std.proofs.lemmas.List.Kept.{IsStrictlyIncreasing-filter}
use Rattle.std.proofs.lemmas.Map.Keys.{sorted_from_strictly_increasing}
use Rattle.ms_base.specs.declared.kind.Space.{Space}
use Rattle.ms_base.specs.declared.kind.Space.TheVariants.{NonClass, Class}
use Rattle.ms_base.specs.Spaces.{other_space, first_class_slot}
use Rattle.ms_base.specs.Part.{is_reserved}
use Rattle.ms_base.specs.Policy.{slot_granules}
use Rattle.ms_base.specs.Committed.{is_among}
use Rattle.ms_commit.specs.NumberSet.{is_in_range, with_range, without_range}
use Rattle.ms_commit.specs.Nodes.{NodesState, node_granules, all_slots, slots_of, is_granule_of, granules_in}
use Rattle.ms_commit.specs.Nodes.{AreOfSpace, AreSound}
use Rattle.ms_commit.specs.Laws.{AreOfTwoSpaces, ChangeTheirSpace, LeavesWithItsGranules}
use Rattle.ms_commit.proofs.RangeLemmas.{filter-filter, filter_agree_in, filter_all_in, filter_none_in, is_among-filter}
use Rattle.ms_commit.proofs.RangeLemmas.{is_among-range}
use Rattle.ms_commit.proofs.NodesLemmas.{member_below, reserved_either, reserved_low, next_slot}

not_past : (at k : ℕ) → k < at → nat_le at k ≡ false
not_past at k h = grind (arith, nat_tests)

-- Of numbers above one that is not below a bound, none is below it.
none_below : (at x : ℕ) (later : List ℕ) → at ≤ x → AllByRecursion (λ y. nat_cmp x y ≡ Less) later
    → filter (λ k. nat_lt k at) later ≡ []
none_below at x [] h all = refl
none_below at x (y ∷ later) h all =
    ap (λ b. cond b (y ∷ filter (λ k. nat_lt k at) later) (filter (λ k. nat_lt k at) later)) (past at x y h all.0)
    ∙ none_below at x later h all.1
  where
    past : (at x y : ℕ) → at ≤ x → nat_cmp x y ≡ Less → nat_lt y at ≡ false
    past at x y h less = grind (arith, nat_tests)

all_from : (at x : ℕ) (later : List ℕ) → at ≤ x → AllByRecursion (λ y. nat_cmp x y ≡ Less) later
    → filter (λ k. nat_le at k) later ≡ later
all_from at x [] h all = refl
all_from at x (y ∷ later) h all =
    ap (λ b. cond b (y ∷ filter (λ k. nat_le at k) later) (filter (λ k. nat_le at k) later)) (past at x y h all.0)
    ∙ ap (λ rest. y ∷ rest) (all_from at x later h all.1)
  where
    past : (at x y : ℕ) → at ≤ x → nat_cmp x y ≡ Less → nat_le at y ≡ true
    past at x y h less = grind (arith, nat_tests)

-- A rising list is what lies below a number and what lies from it on.
pub cut_at : (at : ℕ) (members : List ℕ) → IsStrictlySortedBy nat_cmp members
    → filter (λ k. nat_lt k at) members ++ filter (λ k. nat_le at k) members ≡ members
unfolding IsStrictlySortedBy
cut_at at [] rise = refl
cut_at at (x ∷ members) rise = elim (cases_lt x at) [
  | inl lower ↦ split (is_below at x lower) (not_past at x lower) ∙ ap (λ rest. x ∷ rest) (cut_at at members rise.1)
  | inr from ↦ split (not_below at x from) (is_past at x from)
      ∙ ap₂ (λ a b. a ++ x ∷ b) (none_below at x members from rise.0) (all_from at x members from rise.0)
]
  where
    low : List ℕ
    low = filter (λ k. nat_lt k at) members

    high : List ℕ
    high = filter (λ k. nat_le at k) members

    split : {a b : Bool} → nat_lt x at ≡ a → nat_le at x ≡ b
        → cond (nat_lt x at) (x ∷ low) low ++ cond (nat_le at x) (x ∷ high) high
        ≡ cond a (x ∷ low) low ++ cond b (x ∷ high) high
    split e f = ap₂ (λ a b. cond a (x ∷ low) low ++ cond b (x ∷ high) high) e f

    is_below : (at x : ℕ) → x < at → nat_lt x at ≡ true
    is_below at x h = grind (arith, nat_tests)

    not_below : (at x : ℕ) → at ≤ x → nat_lt x at ≡ false
    not_below at x h = grind (arith, nat_tests)

    is_past : (at x : ℕ) → at ≤ x → nat_le at x ≡ true
    is_past at x h = grind (arith, nat_tests)

-- Two filters may be had in either order.
both_ways : (p q : ℕ → Bool) (members : List ℕ) → filter p (filter q members) ≡ filter q (filter p members)
both_ways p q members =
    filter-filter q p members ∙ filter_agree (λ k. q k && p k) (λ k. p k && q k) (λ k. and_comm (q k) (p k)) members
    ∙ sym (filter-filter p q members)

-- What passes a test, of a set with a range added.
filter-with : (p : ℕ → Bool) (members : List ℕ) (first count : ℕ)
    → filter p (with_range members first count)
    ≡ filter (λ k. nat_lt k first) (filter p members) ++ filter p (range_with_len first count)
    ++ filter (λ k. nat_le (first + count) k) (filter p members)
filter-with p members first count =
    filter-append p (filter (λ k. nat_lt k first) members ++ range_with_len first count)
    (filter (λ k. nat_le (first + count) k) members)
    ∙ ap (λ rest. rest ++ filter p (filter (λ k. nat_le (first + count) k) members))
    (filter-append p (filter (λ k. nat_lt k first) members) (range_with_len first count))
    ∙ ap₂ (λ a b. a ++ filter p (range_with_len first count) ++ b) (both_ways p (λ k. nat_lt k first) members)
    (both_ways p (λ k. nat_le (first + count) k) members)

filter-with_passing : (p : ℕ → Bool) (members : List ℕ) (first count : ℕ)
    → ((k : ℕ) → first ≤ k → k < first + count → p k ≡ true)
    → filter p (with_range members first count) ≡ with_range (filter p members) first count
filter-with_passing p members first count passes =
    filter-with p members first count
    ∙ ap (λ range. filter (λ k. nat_lt k first) (filter p members) ++ range
    ++ filter (λ k. nat_le (first + count) k) (filter p members)) (filter_all_in p first count passes)

filter-with_failing : (p : ℕ → Bool) (members : List ℕ) (first count : ℕ) → IsStrictlyIncreasing members
    → ((k : ℕ) → first ≤ k → k < first + count → p k ≡ false)
    → filter p (with_range members first count) ≡ filter p members
filter-with_failing p members first count rise fails =
    filter-with p members first count
    ∙ ap₂ (λ range past. filter (λ k. nat_lt k first) (filter p members) ++ range ++ past)
    (filter_none_in p first count fails) same_past
    ∙ ap (λ lower. lower ++ filter (λ k. nat_le first k) (filter p members))
    (append-nil (filter (λ k. nat_lt k first) (filter p members)))
    ∙ cut_at first (filter p members)
    (sorted_from_strictly_increasing (filter p members) (IsStrictlyIncreasing-filter p members rise))
  where
    same_side : (k : ℕ) (b : Bool) → p k ≡ b → (b && nat_le (first + count) k) ≡ (b && nat_le first k)
    same_side k false e = refl
    same_side k true e = elim (cases_lt k first) [
      | inl before ↦ grind (arith, nat_tests)
      | inr from ↦ elim (cases_lt k (first + count)) [
        | inl under ↦ absurd (false≢true (sym (fails k from under) ∙ e))
        | inr past ↦ grind (arith, nat_tests)
      ]
    ]

    same_past : filter (λ k. nat_le (first + count) k) (filter p members)
        ≡ filter (λ k. nat_le first k) (filter p members)
    same_past =
        filter-filter p (λ k. nat_le (first + count) k) members
        ∙ filter_agree (λ k. p k && nat_le (first + count) k) (λ k. p k && nat_le first k)
        (λ k. same_side k (p k) refl) members
        ∙ sym (filter-filter p (λ k. nat_le first k) members)

-- A range of which nothing passes is taken out of a set.
filter-without_failing : (p : ℕ → Bool) (members : List ℕ) (first count : ℕ)
    → ((k : ℕ) → first ≤ k → k < first + count → p k ≡ false)
    → filter p (without_range members first count) ≡ filter p members
filter-without_failing p members first count fails =
    filter-filter (λ k. not (is_in_range first count k)) p members
    ∙ filter_agree (λ k. not (is_in_range first count k) && p k) p (λ k. out k (is_in_range first count k) refl) members
  where
    out : (k : ℕ) (b : Bool) → is_in_range first count k ≡ b → (not b && p k) ≡ p k
    out k false e = refl
    out k true e = sym (fails k (grind (arith, nat_tests)) (grind (arith, nat_tests)))

-- A granule lies in one of the spaces.
opposite : (each : ℕ) (space : Space) (k : ℕ)
    → is_granule_of (other_space space) each k ≡ not (is_granule_of space each k)
opposite each NonClass k = of_two k (first_class_slot * each)
  where
    of_two : (k at : ℕ) → nat_le at k ≡ not (nat_lt k at)
    of_two k at = grind (arith, nat_tests)
opposite each Class k = of_two k (first_class_slot * each)
  where
    of_two : (k at : ℕ) → nat_lt k at ≡ not (nat_le at k)
    of_two k at = grind (arith, nat_tests)

pub some_granules : (nodes : NodesState) → AreSound nodes → 0 < node_granules nodes
some_granules nodes sound = elim sound.size [
  | inl large ↦ omega (arith, ap slot_granules large)
  | inr small ↦ omega (arith, ap slot_granules small)
]

-- A granule's slot is reserved where it is among those of the granule's space.
pub reserved_in : (nodes : NodesState) (space : Space) (k : ℕ) → AreSound nodes
    → is_granule_of space (node_granules nodes) k ≡ true
    → is_reserved (all_slots nodes) (k / node_granules nodes)
    ≡ is_reserved (slots_of space nodes) (k / node_granules nodes)
reserved_in nodes NonClass k sound inside =
    reserved_low nodes (k / node_granules nodes)
    ((div-lt_iff_lt-mul (some_granules nodes sound)).1 (lower k (first_class_slot * node_granules nodes) inside))
  where
    lower : (a b : ℕ) → nat_lt a b ≡ true → a < b
    lower a b e = grind (arith, nat_tests)
reserved_in nodes Class k sound inside =
    reserved_either nodes slot
    ∙ not_low (is_reserved nodes.slots slot) refl
    ∙ sym (is_among-range first_class_slot nodes.class_slots slot)
  where
    slot : ℕ
    slot = k / node_granules nodes

    from : (a b : ℕ) → nat_le a b ≡ true → a ≤ b
    from a b e = grind (arith, nat_tests)

    not_low : (b : Bool) → is_reserved nodes.slots slot ≡ b
        → (b || is_in_range first_class_slot nodes.class_slots slot)
        ≡ is_in_range first_class_slot nodes.class_slots slot
    not_low false e = refl
    not_low true e = absurd (omega (
      arith,
      (div-lt_iff_lt-mul (some_granules nodes sound)).0
          (member_below first_class_slot nodes.slots slot sound.slots.below e),
      from (first_class_slot * node_granules nodes) k inside,
    ))

pub are_of_two_spaces : (nodes : NodesState) → AreSound nodes → AreOfTwoSpaces nodes
are_of_two_spaces nodes sound = record {
  joined =
      sym (cut_at (first_class_slot * node_granules nodes) nodes.granules
      (sorted_from_strictly_increasing nodes.granules sound.granules));
  rising = λ space. IsStrictlyIncreasing-filter (is_granule_of space (node_granules nodes)) nodes.granules
      sound.granules;
  members = λ space k. is_among-filter (is_granule_of space (node_granules nodes)) nodes.granules k;
  reserved = λ space k member.
      let parts = and_parts (is_granule_of space (node_granules nodes) k) (is_among nodes.granules k)
      (sym (is_among-filter (is_granule_of space (node_granules nodes)) nodes.granules k) ∙ member) in
      sym (reserved_in nodes space k sound parts.0) ∙ sound.inside k parts.1;
  counted = λ space.
      let parts =
      length-filter_both (is_granule_of space (node_granules nodes))
      (is_granule_of (other_space space) (node_granules nodes))
      (opposite (node_granules nodes) space) nodes.granules in
      omega (arith, parts);
}

-- A range of a space comes or goes.
pub change_their_space : (nodes : NodesState) (space : Space) (first count : ℕ) → AreSound nodes
    → AreOfSpace space nodes first count → ChangeTheirSpace nodes space first count
change_their_space nodes space first count sound inside = record {
  added = filter-with_passing (is_granule_of space (node_granules nodes)) nodes.granules first count inside;
  added_other =
      filter-with_failing (is_granule_of (other_space space) (node_granules nodes)) nodes.granules first count
      sound.granules outside;
  out = both_ways (is_granule_of space (node_granules nodes)) (λ k. not (is_in_range first count k)) nodes.granules;
  out_other =
      filter-without_failing (is_granule_of (other_space space) (node_granules nodes)) nodes.granules first count
      outside;
  missing = ap length (filter_agree_in (λ k. not (is_among nodes.granules k))
      (λ k. not (is_among (granules_in space nodes) k)) first count
      (λ k low high. ap not (sym (is_among-filter (is_granule_of space (node_granules nodes)) nodes.granules k
      ∙ ap (λ b. b && is_among nodes.granules k) (inside k low high)))));
}
  where
    outside : (k : ℕ) → first ≤ k → k < first + count
        → is_granule_of (other_space space) (node_granules nodes) k ≡ false
    outside k low high = opposite (node_granules nodes) space k ∙ ap not (inside k low high)

-- A slot below those of the class space goes with its granules.
pub leaves_with_its_granules : (nodes : NodesState) (slot : ℕ) → slot < first_class_slot
    → LeavesWithItsGranules nodes slot
leaves_with_its_granules nodes slot low = record {
  out = both_ways (is_granule_of NonClass (node_granules nodes)) (λ k. not (is_in_range (slot * n) n k)) nodes.granules;
  class_stays = filter-without_failing (is_granule_of Class (node_granules nodes)) nodes.granules (slot * n) n outside;
}
  where
    n : ℕ
    n = node_granules nodes

    outside : (k : ℕ) → slot * n ≤ k → k < slot * n + n → nat_le (first_class_slot * n) k ≡ false
    outside k from under = not_past (first_class_slot * n) k (omega (arith, next_slot slot first_class_slot n low))

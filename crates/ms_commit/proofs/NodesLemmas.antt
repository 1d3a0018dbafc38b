-- Sound nodes stay sound: a slot comes or goes, granules are committed or uncommitted.
use Rattle.std.proofs.Common.{◌≡◌, ◌≤◌, ◌<◌, ℕ, zero, suc, ◌+◌, ◌*◌, ◌/◌, ◌^◌, Bool, true, false, ◌&&◌, ◌||◌, not, List}
use Rattle.std.proofs.Common.{length, refl, sym, ap, ◌∙◌, subst, inl, inr, arith}
use Rattle.std.specs.Prelude.{◌==◌}
use Rattle.std.specs.List.{All}
use Rattle.std.specs.List.Sorted.{IsStrictlyIncreasing}
use Rattle.std.specs.Ordering.{nat_cmp}
use Rattle.std.specs.BTreeSet.{insert_key}
use Rattle.std.proofs.lemmas.Bool.{cases_order, and_parts, or_cases, or_right}
use Rattle.std.proofs.lemmas.Bool.Decides.{nat_tests}
use Rattle.std.proofs.lemmas.List.Folds.{Any-from_list_any, list_any-append}
use Rattle.std.proofs.lemmas.Nat.{div-add-mod', mod_below, mul-le}
use Rattle.std.proofs.Math.Nat.{div-lt_iff_lt-mul, add-mul}
use Rattle.ms_base.specs.Part.{is_reserved}
use Rattle.ms_base.specs.Spaces.{first_class_slot, class_slots}
use Rattle.ms_base.specs.Committed.{is_among}
use Rattle.ms_commit.specs.NumberSet.{is_in_range, with_range, without_range, without_number, IsSetBelow}
use Rattle.ms_commit.specs.Nodes.{NodesState, node_granules, all_slots, IsInReserved, AreInReserved, AreSound}
use Rattle.ms_commit.proofs.RangeLemmas.{or_false, is_among-filter, is_among-range}
use Rattle.ms_commit.proofs.SameLemmas.{is_among-insert_key}
use Rattle.ms_commit.proofs.SetLemmas.{is_among-with_range, is_among-without_range}

-- A member of a set below a bound is below it.
pub member_below : (bound : ℕ) (members : List ℕ) (k : ℕ) → All (λ m. m < bound) members → is_among members k ≡ true
    → k < bound
member_below bound members k all member =
    let found = Any-from_list_any (λ other. other == k) members member in
    same found.1 k found.4 (subst (λ m. m < bound) found.3 (all found.0 found.1 found.2))
  where
    same : (other k : ℕ) → (other == k) ≡ true → other < bound → k < bound
    same other k e under = grind (arith, e)

-- A slot is reserved where it is one of those below the class space's, or one of these.
pub reserved_either : (nodes : NodesState) (slot : ℕ)
    → is_reserved (all_slots nodes) slot
    ≡ (is_reserved nodes.slots slot || is_in_range first_class_slot nodes.class_slots slot)
reserved_either nodes slot =
    list_any-append (λ other. other == slot) nodes.slots (class_slots nodes.class_slots)
    ∙ ap (λ b. is_reserved nodes.slots slot || b) (is_among-range first_class_slot nodes.class_slots slot)

pub reserved_low : (nodes : NodesState) (slot : ℕ) → slot < first_class_slot
    → is_reserved (all_slots nodes) slot ≡ is_reserved nodes.slots slot
reserved_low nodes slot low = reserved_either nodes slot ∙ or_false (is_reserved nodes.slots slot)
    (is_in_range first_class_slot nodes.class_slots slot) (grind (arith, nat_tests))

slot_bounded : (nodes : NodesState) (slot : ℕ) → AreSound nodes → is_reserved (all_slots nodes) slot ≡ true → slot < 80
slot_bounded nodes slot sound reserved = elim (or_cases (is_reserved nodes.slots slot)
    (is_in_range first_class_slot nodes.class_slots slot) (sym (reserved_either nodes slot) ∙ reserved)) [
      | inl low ↦ omega (arith, member_below first_class_slot nodes.slots slot sound.slots.below low)
      | inr high ↦ class_bounded slot nodes.class_slots sound.class_slots high
    ]
  where
    class_bounded : (slot count : ℕ) → count ≤ 16 → is_in_range 64 count slot ≡ true → slot < 80
    class_bounded slot count few within = grind (arith, nat_tests)

-- A granule of a reserved slot has a bit in a mask of 80 slots.
pub granule_below : (nodes : NodesState) (granule : ℕ) → AreSound nodes → 0 < node_granules nodes
    → IsInReserved nodes granule → granule < 80 * node_granules nodes
granule_below nodes granule sound some reserved =
    (div-lt_iff_lt-mul some).0 (slot_bounded nodes (granule / node_granules nodes) sound reserved)

pub range_fits : (nodes : NodesState) (first count : ℕ) → AreSound nodes → 0 < node_granules nodes
    → node_granules nodes ≤ 512 → AreInReserved nodes first count → first < 2 ^ 64 → first + count < 2 ^ 64
range_fits nodes first zero sound some few reserved fits = omega arith
range_fits nodes first (suc count) sound some few reserved fits =
    omega (arith, granule_below nodes (first + count) sound some (reserved (first + count) (omega arith) (omega arith)))

-- Granules of reserved slots are committed.
pub sound_with : (nodes : NodesState) (granules : List ℕ) (first count : ℕ) → AreSound nodes
    → AreInReserved nodes first count
    → granules ≡ with_range nodes.granules first count → IsStrictlyIncreasing granules
    → length granules ≤ nodes.limits.granules
    → AreSound (record nodes { granules = granules })
sound_with nodes granules first count sound reserved after rising within = record {
  size = sound.size;
  slots = sound.slots;
  class_slots = sound.class_slots;
  granules = rising;
  inside =
      λ granule member. from_either granule (is_among nodes.granules granule)
      (is_in_range first count granule) refl refl
      (sym (is_among-with_range nodes.granules first count granule)
      ∙ ap (λ members. is_among members granule) (sym after) ∙ member);
  reserved = sound.reserved;
  committed = within;
}
  where
    from_either : (granule : ℕ) (old new : Bool) → is_among nodes.granules granule ≡ old
        → is_in_range first count granule ≡ new → (old || new) ≡ true → IsInReserved nodes granule
    from_either granule true new was is e = sound.inside granule was
    from_either granule false true was is e = reserved granule (grind (arith, nat_tests)) (grind (arith, nat_tests))
    from_either granule false false was is e = absurd (cc)

-- Granules are uncommitted.
pub sound_without : (nodes : NodesState) (granules : List ℕ) (first count : ℕ) → AreSound nodes
    → granules ≡ without_range nodes.granules first count → IsStrictlyIncreasing granules
    → length granules ≤ nodes.limits.granules
    → AreSound (record nodes { granules = granules })
sound_without nodes granules first count sound after rising within = record {
  size = sound.size;
  slots = sound.slots;
  class_slots = sound.class_slots;
  granules = rising;
  inside = λ granule member. sound.inside granule
      (and_parts (not (is_in_range first count granule)) (is_among nodes.granules granule)
      (sym (is_among-without_range nodes.granules first count granule)
      ∙ ap (λ members. is_among members granule) (sym after) ∙ member)).1;
  reserved = sound.reserved;
  committed = within;
}

-- A slot is reserved: those reserved before stay so.
pub sound_reserve : (nodes : NodesState) (slots : List ℕ) (slot : ℕ) → AreSound nodes
    → slots ≡ insert_key nat_cmp nodes.slots slot
    → IsSetBelow first_class_slot slots → length slots ≤ nodes.limits.nodes → AreSound (record nodes { slots = slots })
sound_reserve nodes slots slot sound after set within = record {
  size = sound.size;
  slots = set;
  class_slots = sound.class_slots;
  granules = sound.granules;
  inside = λ granule member. still (granule / node_granules nodes) (sound.inside granule member);
  reserved = within;
  committed = sound.committed;
}
  where
    more : (a b c : Bool) → (a || c) ≡ true → ((a || b) || c) ≡ true
    more true b c h = refl
    more false b c h = or_right b c h

    still : (k : ℕ) → is_reserved (all_slots nodes) k ≡ true
        → is_reserved (all_slots (record nodes { slots = slots })) k ≡ true
    still k before =
        reserved_either (record nodes { slots = slots }) k
        ∙ ap (λ b. b || is_in_range first_class_slot nodes.class_slots k)
        (ap (λ members. is_among members k) after ∙ is_among-insert_key nodes.slots slot k)
        ∙ more (is_among nodes.slots k) (slot == k) (is_in_range first_class_slot nodes.class_slots k)
        (sym (reserved_either nodes k) ∙ before)

-- The granules of a slot end where those of the next begin.
pub next_slot : (slot later n : ℕ) → slot < later → slot * n + n ≤ later * n
next_slot slot later n h = omega (arith, mul-le (slot + 1) n later n (omega arith) (omega arith), add-mul slot 1 n)

-- The granules of a slot are those whose slot it is.
pub in_own_slot : (slot n k : ℕ) → 0 < n → is_in_range (slot * n) n k ≡ (slot == k / n)
in_own_slot slot n k some = elim (cases_order slot (k / n)) [
  | inl same ↦
      let row = ap (λ s. s * n) same in
      inside (omega (arith, div-add-mod' k n, row)) (omega (arith, div-add-mod' k n, row, mod_below k n some)) same
  | inr apart ↦ elim apart [
    | inl lower ↦ past (omega (arith, div-add-mod' k n, next_slot slot (k / n) n lower)) lower
    | inr higher ↦ before (omega (arith, div-add-mod' k n, mod_below k n some, next_slot (k / n) slot n higher)) higher
  ]
]
  where
    inside : slot * n ≤ k → k < slot * n + n → slot ≡ k / n → is_in_range (slot * n) n k ≡ (slot == k / n)
    inside low high same = grind (arith, nat_tests)

    past : slot * n + n ≤ k → slot < k / n → is_in_range (slot * n) n k ≡ (slot == k / n)
    past over lower = grind (arith, nat_tests)

    before : k < slot * n → k / n < slot → is_in_range (slot * n) n k ≡ (slot == k / n)
    before under higher = grind (arith, nat_tests)

other_slot : (slot n k : ℕ) → 0 < n → not (is_in_range (slot * n) n k) ≡ true → not (k / n == slot) ≡ true
other_slot slot n k some outside = turned slot (k / n) (ap not (sym (in_own_slot slot n k some)) ∙ outside)
  where
    turned : (a b : ℕ) → not (a == b) ≡ true → not (b == a) ≡ true
    turned a b e = grind (arith, nat_tests)

-- A slot is unreserved with its granules.
pub sound_unreserve : (nodes : NodesState) (slots granules : List ℕ) (slot : ℕ) → AreSound nodes
    → 0 < node_granules nodes
    → slots ≡ without_number nodes.slots slot
    → granules ≡ without_range nodes.granules (slot * node_granules nodes) (node_granules nodes)
    → IsSetBelow first_class_slot slots → IsStrictlyIncreasing granules → length slots ≤ nodes.limits.nodes
    → length granules ≤ nodes.limits.granules
    → AreSound (record nodes { slots = slots; granules = granules })
sound_unreserve nodes slots granules slot sound some slots_after granules_after set rising few within = record {
  size = sound.size;
  slots = set;
  class_slots = sound.class_slots;
  granules = rising;
  inside = λ granule member.
      let kept = and_parts (not (is_in_range (slot * n) n granule)) (is_among nodes.granules granule)
      (sym (is_among-without_range nodes.granules (slot * n) n granule)
      ∙ ap (λ members. is_among members granule) (sym granules_after) ∙ member) in
      still (granule / n) (other_slot slot n granule some kept.0) (sound.inside granule kept.1);
  reserved = few;
  committed = within;
}
  where
    n : ℕ
    n = node_granules nodes

    stays : (a b c : Bool) → b ≡ true → (a || c) ≡ true → ((b && a) || c) ≡ true
    stays a true c e h = h
    stays a false c e h = absurd (cc)

    still : (k : ℕ) → not (k == slot) ≡ true → is_reserved (all_slots nodes) k ≡ true
        → is_reserved (all_slots (record nodes { slots = slots })) k ≡ true
    still k other before =
        reserved_either (record nodes { slots = slots }) k
        ∙ ap (λ b. b || is_in_range first_class_slot nodes.class_slots k)
        (ap (λ members. is_among members k) slots_after ∙ is_among-filter (λ s. not (s == slot)) nodes.slots k)
        ∙ stays (is_among nodes.slots k) (not (k == slot)) (is_in_range first_class_slot nodes.class_slots k) other
        (sym (reserved_either nodes k) ∙ before)

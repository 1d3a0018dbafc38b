-- The committed granules are counted slot by slot, and none is missed: each granule that holds a
-- word of a front lies in a reserved slot.
use Rattle.std.proofs.Common.{◌≡◌, ◌≤◌, ◌<◌, ℕ, zero, suc, ◌+◌, ◌-◌, ◌*◌, ◌/◌, ◌^◌, Bool, true, false, cond, ◌&&◌, ◌||◌}
use Rattle.std.proofs.Common.{List, [], ◌∷◌, refl, sym, ap, ◌∙◌, inl, inr, arith}
use Rattle.std.specs.Prelude.{◌==◌, nat_lt}
use Rattle.std.specs.List.{AllByRecursion, list_any, list_all, flat_map, filter, range_with_len}
use Rattle.std.specs.Cmp.{both_ways as same_truth}
use Rattle.std.proofs.lemmas.Bool.{eqb-true}
use Rattle.std.proofs.lemmas.Nat.{mul-le, pow-add, div-add-mod'}
use Rattle.std.proofs.Math.Nat.{add-mul, mul_assoc}
use Rattle.std.proofs.lemmas.Bool.{cases_lt, cases_eq, and_parts, or_left, or_right, or_cases}
use Rattle.std.proofs.lemmas.Bool.Decides.{nat_tests}
use Rattle.std.proofs.lemmas.List.Folds.{list_any-append}
use Rattle.std.proofs.lemmas.List.Elements.{recursion_from_All}
use Rattle.ms_base.specs.declared.policy.Policy.{Policy}
use Rattle.ms_base.specs.Policy.{granule_of, keeps}
use Rattle.ms_base.specs.declared.span.Chunk.{Chunk}
use Rattle.ms_base.specs.Interval.{meet}
use Rattle.ms_base.specs.Level.{size_of, highest_level}
use Rattle.ms_base.specs.Part.{IsPart, slot_of, is_reserved, node_words}
use Rattle.ms_base.specs.Front.{HasFront}
use Rattle.ms_base.specs.Held.{AreHeld}
use Rattle.ms_base.specs.Laws.{is_number, IsCounted}
use Rattle.ms_base.specs.Committed.{is_committed, is_committed_now, is_among, granules_of}
use Rattle.ms_base.specs.State.{PoolState}
use Rattle.ms_base.specs.PoolSteps.Pick.{granule_in, has_committed}
use Rattle.ms_base.specs.Good.{IsSoundPool}
use Rattle.ms_base.proofs.granules.PolicyLemmas.{granules_make_nodes}
use Rattle.ms_base.proofs.free.PartLemmas.{by_number}
use Rattle.ms_base.proofs.machine.HeldLemmas.{IsPlaced}

-- A product is below another only where its factor is.
pub below_from_product : (a b t : ℕ) → a * t < b * t → a < b
below_from_product a b t h = elim (cases_lt a b) [
  | inl k ↦ k
  | inr k ↦ absurd (omega (arith, mul-le b t a t k (omega arith)))
]

-- A node in terms of a level's size.
pub node_by_level : (level : ℕ) → level ≤ highest_level → node_words ≡ 2 ^ (level + 1) * size_of level
node_by_level level h = ap (λ (n : ℕ). 2 ^ n) (exponent level h) ∙ pow-add 2 (level + 1) (19 - level)
  where
    exponent : (level : ℕ) → level ≤ highest_level → 20 ≡ (level + 1) + (19 - level)
    exponent level h = omega arith

-- A part that starts in a node ends in it.
pub ends_in_node : (start level : ℕ) → IsPart start level
    → start + size_of level ≤ slot_of start * node_words + node_words
ends_in_node start level part =
    omega (
      arith,
      number,
      whole,
      mul-le (start / size_of level + 1) (size_of level) (slot_of start * e + e) (size_of level) (omega (arith, first))
          (omega arith),
      add-mul (start / size_of level) 1 (size_of level),
      add-mul (slot_of start * e) e (size_of level),
      mul_assoc (slot_of start) e (size_of level),
      scaled,
    )
  where
    e : ℕ
    e = 2 ^ (level + 1)

    number : start ≡ start / size_of level * size_of level
    number = by_number start (size_of level) part.1

    whole : node_words ≡ e * size_of level
    whole = node_by_level level part.0

    scaled : slot_of start * node_words ≡ slot_of start * (e * size_of level)
    scaled = ap (λ (x : ℕ). slot_of start * x) whole

    first : start / size_of level < slot_of start * e + e
    first = below_from_product (start / size_of level) (slot_of start * e + e) (size_of level)
        (omega (
          arith,
          number,
          whole,
          scaled,
          add-mul (slot_of start * e) e (size_of level),
          mul_assoc (slot_of start) e (size_of level),
        ))

below : (a b : ℕ) → nat_lt a b ≡ true → a < b
below a b e = grind (arith, nat_tests)

-- A granule that holds a word of a chunk's front is a granule of the chunk's node, where n
-- granules make a node.
pub in_node : (granule n : ℕ) (chunk : Chunk) (k : ℕ) → n * granule ≡ node_words → IsPart chunk.start chunk.level
    → chunk.front ≤ size_of chunk.level
    → meet chunk.start chunk.front (k * granule) granule ≡ true
    → (slot_of chunk.start * n ≤ k) × (k < slot_of chunk.start * n + n)
in_node granule n chunk k whole part front meets = (omega (arith, lower), upper)
  where
    apart : (chunk.start < k * granule + granule) × (k * granule < chunk.start + chunk.front)
    apart = let both =
        and_parts (nat_lt chunk.start (k * granule + granule)) (nat_lt (k * granule) (chunk.start + chunk.front)) meets
        in
        (below chunk.start (k * granule + granule) both.0, below (k * granule) (chunk.start + chunk.front) both.1)

    scaled : slot_of chunk.start * node_words ≡ slot_of chunk.start * n * granule
    scaled = ap (λ (x : ℕ). slot_of chunk.start * x) (sym whole) ∙ sym (mul_assoc (slot_of chunk.start) n granule)

    lower : slot_of chunk.start * n < k + 1
    lower = below_from_product (slot_of chunk.start * n) (k + 1) granule
        (omega (arith, scaled, apart.0, add-mul k 1 granule, div-add-mod' chunk.start node_words))

    upper : k < slot_of chunk.start * n + n
    upper = below_from_product k (slot_of chunk.start * n + n) granule
        (omega (
          arith,
          scaled,
          whole,
          apart.1,
          front,
          ends_in_node chunk.start chunk.level part,
          add-mul (slot_of chunk.start * n) n granule,
        ))

found_here : (k : ℕ) → (k == k) ≡ true
found_here k = grind arith

-- A range has each number from its first on.
pub in_range : (a n k : ℕ) → a ≤ k → k < a + n → list_any (is_number k) (range_with_len a n) ≡ true
in_range a zero k h m = absurd (omega arith)
in_range a (suc n) k h m = elim (cases_eq a k) [
  | inl e ↦ or_left (a == k) (list_any (is_number k) (range_with_len (a + 1) n)) (rw e (found_here k))
  | inr e ↦ or_right (a == k) (list_any (is_number k) (range_with_len (a + 1) n))
      (in_range (a + 1) n k (omega (arith, e)) (omega arith))
]

-- What a reserved slot's list has, the lists of all slots together have.
in_slots : (f : ℕ → List ℕ) (slots : List ℕ) (slot k : ℕ) → is_reserved slots slot ≡ true
    → list_any (is_number k) (f slot) ≡ true
    → list_any (is_number k) (flat_map f slots) ≡ true
in_slots f [] slot k reserved there = absurd (cc)
in_slots f (s ∷ slots) slot k reserved there =
    list_any-append (is_number k) (f s) (flat_map f slots)
    ∙ elim (s == slot) as (λ b. (s == slot) ≡ b
    → (list_any (is_number k) (f s) || list_any (is_number k) (flat_map f slots)) ≡ true) [
      | true ↦ λ e. or_left (list_any (is_number k) (f s)) (list_any (is_number k) (flat_map f slots))
          (rw (eqb-true s slot e) there)
      | false ↦ λ e. or_right (list_any (is_number k) (f s)) (list_any (is_number k) (flat_map f slots))
          (in_slots f slots slot k (rw e at reserved) there)
    ] refl

-- What is in a list and passes the test is in the filtered list, and what is there passes.
pub kept_by : (p : ℕ → Bool) (xs : List ℕ) (k : ℕ) → p k ≡ true → list_any (is_number k) xs ≡ true
    → list_any (is_number k) (filter p xs) ≡ true
kept_by p [] k passes there = absurd (cc)
kept_by p (x ∷ xs) k passes there =
    elim (x == k) as (λ b. (x == k) ≡ b → list_any (is_number k) (cond (p x) (x ∷ filter p xs) (filter p xs)) ≡ true) [
      | true ↦ λ e. rw (ap p (eqb-true x k e) ∙ passes) (or_left (x == k) (list_any (is_number k) (filter p xs)) e)
      | false ↦ λ e. later (p x) (kept_by p xs k passes (rw e at there))
    ] refl
  where
    later : (b : Bool) → list_any (is_number k) (filter p xs) ≡ true
        → list_any (is_number k) (cond b (x ∷ filter p xs) (filter p xs)) ≡ true
    later true h = or_right (x == k) (list_any (is_number k) (filter p xs)) h
    later false h = h

pub passes_in : (p : ℕ → Bool) (xs : List ℕ) (k : ℕ) → list_any (is_number k) (filter p xs) ≡ true → p k ≡ true
passes_in p [] k there = absurd (cc)
passes_in p (x ∷ xs) k there =
    elim (p x) as (λ b. p x ≡ b → list_any (is_number k) (cond b (x ∷ filter p xs) (filter p xs)) ≡ true → p k ≡ true) [
      | true ↦ λ e there.
          elim (x == k) as (λ b. (x == k) ≡ b → (b || list_any (is_number k) (filter p xs)) ≡ true → p k ≡ true) [
            | true ↦ λ same there. ap p (sym (eqb-true x k same)) ∙ e
            | false ↦ λ other there. passes_in p xs k there
          ] refl there
      | false ↦ λ e there. passes_in p xs k there
    ] refl there

-- A granule that holds a word of a front is a granule of a reserved slot.
in_reserved : (policy : Policy) (slots : List ℕ) (k : ℕ) (held : List Chunk)
    → AllByRecursion IsPlaced held → AllByRecursion (HasFront policy) held
    → list_all (λ (chunk : Chunk). is_reserved slots (slot_of chunk.start)) held ≡ true
    → is_committed (granule_of policy) held k ≡ true
    → list_any (is_number k) (flat_map (granules_of (granule_of policy)) slots) ≡ true
in_reserved policy slots k [] parts fronts reserved meets = absurd (cc)
in_reserved policy slots k (chunk ∷ held) parts fronts reserved meets =
    let here =
    and_parts (is_reserved slots (slot_of chunk.start))
    (list_all (λ (c : Chunk). is_reserved slots (slot_of c.start)) held) reserved in
    let granule = granule_of policy in
    elim (meet chunk.start chunk.front (k * granule) granule) as (λ b. meet chunk.start chunk.front
    (k * granule) granule ≡ b → (b || is_committed granule held k) ≡ true
    → list_any (is_number k) (flat_map (granules_of granule) slots) ≡ true) [
      | true ↦ λ e later. let at =
          in_node granule (node_words / granule) chunk k (granules_make_nodes policy) parts.0 fronts.0.within e in
          in_slots (granules_of granule) slots (slot_of chunk.start) k here.0
          (in_range (slot_of chunk.start * (node_words / granule)) (node_words / granule) k at.0 at.1)
      | false ↦ λ e later. in_reserved policy slots k held parts.1 fronts.1 here.1 later
    ] refl meets

pub granule_is_reserved : (policy : Policy) (slots : List ℕ) (held : List Chunk) (k : ℕ) → AreHeld policy slots held
    → is_committed (granule_of policy) held k ≡ true
    → list_any (is_number k) (flat_map (granules_of (granule_of policy)) slots) ≡ true
granule_is_reserved policy slots held k good meets =
    in_reserved policy slots k held (recursion_from_All IsPlaced held good.parts)
    (recursion_from_All (HasFront policy) held good.fronts) good.reserved meets

-- What is among those that pass a test is in the list, and what is in the list and passes is among
-- them.
in_list : (p : ℕ → Bool) (xs : List ℕ) (k : ℕ) → list_any (is_number k) (filter p xs) ≡ true
    → list_any (is_number k) xs ≡ true
in_list p [] k there = absurd (cc)
in_list p (x ∷ xs) k there =
    elim (p x) as (λ b. list_any (is_number k) (cond b (x ∷ filter p xs) (filter p xs)) ≡ true
    → list_any (is_number k) (x ∷ xs) ≡ true) [
      | true ↦ λ there. elim (or_cases (x == k) (list_any (is_number k) (filter p xs)) there) [
        | inl here ↦ or_left (x == k) (list_any (is_number k) xs) here
        | inr later ↦ or_right (x == k) (list_any (is_number k) xs) (in_list p xs k later)
      ]
      | false ↦ λ there. or_right (x == k) (list_any (is_number k) xs) (in_list p xs k there)
    ] there

-- A granule of a space is committed where it holds a word of a front, or was before and stays so.
pub committed_where_now : (pool : PoolState) (k : ℕ) → IsSoundPool pool → has_committed pool k ≡ true
    → is_committed_now pool.limits.policy pool.committed pool.held k ≡ true
committed_where_now pool k sound there =
    passes_in (is_committed_now pool.limits.policy pool.committed pool.held)
    (flat_map (granules_of (granule_in pool)) pool.slots) k
    (ap (list_any (is_number k)) (sym sound.committed) ∙ there)

pub committed_where_front : (pool : PoolState) (k : ℕ) → IsSoundPool pool
    → is_committed (granule_in pool) pool.held k ≡ true
    → has_committed pool k ≡ true
committed_where_front pool k sound meets =
    ap (list_any (is_number k)) sound.committed
    ∙ kept_by (is_committed_now pool.limits.policy pool.committed pool.held)
    (flat_map (granules_of (granule_in pool)) pool.slots) k
    (or_right (keeps pool.limits.policy && is_among pool.committed k) (is_committed (granule_in pool) pool.held k)
    meets)
    (granule_is_reserved pool.limits.policy pool.slots pool.held k sound.held meets)

pub committed_are_counted : (pool : PoolState) (k : ℕ) → IsSoundPool pool → IsCounted pool k
committed_are_counted pool k sound = record {
  all = λ meets. committed_where_front pool k sound meets;
  none_else = λ reclaims there. now_by_front reclaims (committed_where_now pool k sound there);
  reserved =
      λ there. in_list (is_committed_now pool.limits.policy pool.committed pool.held)
      (flat_map (granules_of (granule_in pool)) pool.slots) k
      (ap (list_any (is_number k)) (sym sound.committed) ∙ there);
}
  where
    now_by_front : keeps pool.limits.policy ≡ false
        → is_committed_now pool.limits.policy pool.committed pool.held k ≡ true
        → is_committed (granule_in pool) pool.held k ≡ true
    now_by_front e h = sym (ap (λ b. (b && is_among pool.committed k) || is_committed (granule_in pool) pool.held k) e)
        ∙ h

-- Where a policy gives back, a granule is committed exactly where it holds a word of a front.
pub committed_by_front : (pool : PoolState) (k : ℕ) → IsSoundPool pool → keeps pool.limits.policy ≡ false
    → has_committed pool k ≡ is_committed (granule_in pool) pool.held k
committed_by_front pool k sound reclaims =
    same_truth (has_committed pool k) (is_committed (granule_in pool) pool.held k)
    ((committed_are_counted pool k sound).none_else reclaims) (committed_where_front pool k sound)

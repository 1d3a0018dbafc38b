-- What the searches find: where a free part is committed enough the part that is picked is so too,
-- and what is picked is a part.
use Rattle.std.proofs.Common.{◌≡◌, ◌≤◌, ℕ, ◌+◌, ◌-◌, ◌*◌, ◌%◌, ◌^◌, Bool, true, false, cond, not, ◌&&◌, ◌||◌}
use Rattle.std.proofs.Common.{List, [], ◌∷◌, ◌++◌, map, max, min, refl, sym, ap, ◌∙◌, subst, arith, inl, inr}
use Rattle.std.specs.Prelude.{◌==◌, nat_le, slice_get, ⊤}
use Rattle.std.specs.Option.{unwrap_or}
use Rattle.std.specs.List.{AllByRecursion, list_any, flat_map, filter, range_with_len}
use Rattle.std.proofs.Math.Nat.{mul_assoc}
use Rattle.std.proofs.lemmas.Bool.{cases_lt, and_parts, or_left, or_right, leb-true, eqb-true}
use Rattle.std.proofs.lemmas.List.{append_assoc}
use Rattle.std.proofs.lemmas.List.Folds.{list_any_at, Any-from_list_any}
use Rattle.ms_base.specs.declared.span.Span.{Span}
use Rattle.ms_base.specs.Level.{size_of, highest_level}
use Rattle.ms_base.specs.Part.{IsPart, node_words}
use Rattle.ms_base.specs.FreeParts.{free_parts}
use Rattle.ms_base.specs.State.{PoolState}
use Rattle.ms_base.specs.PoolSteps.Pick.{is_committed_enough, levels_up, levels_down, found_at}
use Rattle.ms_base.specs.PoolSteps.Pick.{candidates, found_first, new_root, picked, lowest_unreserved}
use Rattle.ms_base.specs.PoolSteps.Causes.{has_committed_room}
use Rattle.ms_base.proofs.free.PickLemmas.{found_is_free_or_new, all_given, all_filtered, both_true}
use Rattle.ms_base.proofs.free.PickLemmas.{both_joined}
use Rattle.ms_base.proofs.granules.GranuleLemmas.{in_range, node_by_level}
use Rattle.ms_base.proofs.free.RoomLemmas.{lowest_is_clear}
use Rattle.std.proofs.Math.Nat.{mul-mod_left}
use Rattle.ms_base.specs.Laws.{is_number}

-- Where some free part is large and committed enough, what is found first is so.
first_joined : (P : Span → Type 0) (xs ys : List Span) (other : Span) → AllByRecursion P xs → (xs ≡ [] → ⊥)
    → P (unwrap_or (slice_get (xs ++ ys) 0) other)
first_joined P [] ys other all some = absurd (some refl)
first_joined P (x ∷ xs) ys other all some = all.0

all_trivial : {X : Type 0} (xs : List X) → AllByRecursion (λ (x : X). ⊤) xs
all_trivial [] = tt
all_trivial (x ∷ xs) = (tt, all_trivial xs)

abbrev IsEnough : PoolState → ℕ → Span → Type 0
IsEnough pool words part = is_committed_enough pool words part ≡ true

enough_at_level : (pool : PoolState) (words level : ℕ)
    → AllByRecursion (IsEnough pool words) (found_at pool words true level)
enough_at_level pool words level =
    all_filtered (λ (part : Span). ⊤) (IsEnough pool words)
    (λ (part : Span). (part.level == level) && (not true || is_committed_enough pool words part))
    (λ part trivial passes. (both_true (part.level == level) (is_committed_enough pool words part) passes).1)
    (free_parts pool.held pool.slots) (all_trivial (free_parts pool.held pool.slots))

enough_at_levels : (pool : PoolState) (words : ℕ) (levels : List ℕ)
    → AllByRecursion (IsEnough pool words) (flat_map (found_at pool words true) levels)
enough_at_levels pool words levels =
    all_given (λ (level : ℕ). ⊤) (IsEnough pool words) (found_at pool words true)
    (λ level trivial. enough_at_level pool words level) levels (all_trivial levels)

filter_some : (p : Span → Bool) (xs : List Span) → list_any p xs ≡ true → filter p xs ≡ [] → ⊥
filter_some p [] there none = cc
filter_some p (x ∷ xs) there none =
    elim (p x) as (λ b. (b || list_any p xs) ≡ true → cond b (x ∷ filter p xs) (filter p xs) ≡ [] → ⊥) [
      | true ↦ λ there none. cc
      | false ↦ λ there none. filter_some p xs there none
    ] there none

append_none : (xs ys : List Span) → xs ++ ys ≡ [] → (xs ≡ []) × (ys ≡ [])
append_none [] ys e = (refl, e)
append_none (x ∷ xs) ys e = absurd (cc)

given_some : (f : ℕ → List Span) (levels : List ℕ) (level : ℕ) → list_any (is_number level) levels ≡ true
    → (f level ≡ [] → ⊥) → flat_map f levels ≡ [] → ⊥
given_some f [] level there some none = cc
given_some f (l ∷ levels) level there some none =
    elim (l == level) as (λ b. (l == level) ≡ b → (b || list_any (is_number level) levels) ≡ true → ⊥) [
      | true ↦ λ same there. some (ap f (sym (eqb-true l level same)) ∙ (append_none (f l) (flat_map f levels) none).0)
      | false ↦ λ other there. given_some f levels level there some (append_none (f l) (flat_map f levels) none).1
    ] refl there

pub mapped : (f : ℕ → ℕ) (xs : List ℕ) (k : ℕ) → list_any (is_number k) xs ≡ true
    → list_any (is_number (f k)) (map f xs) ≡ true
mapped f [] k there = absurd (cc)
mapped f (x ∷ xs) k there =
    elim (x == k) as (λ b. (x == k) ≡ b → (b || list_any (is_number k) xs) ≡ true
    → list_any (is_number (f k)) (map f (x ∷ xs)) ≡ true) [
      | true ↦ λ same there. or_left (f x == f k) (list_any (is_number (f k)) (map f xs))
          (alike (f x) (f k) (ap f (eqb-true x k same)))
      | false ↦ λ other there. or_right (f x == f k) (list_any (is_number (f k)) (map f xs)) (mapped f xs k there)
    ] refl there
  where
    alike : (a b : ℕ) → a ≡ b → (a == b) ≡ true
    alike a b e = grind (arith, e)

pub down_has : (p level : ℕ) → level ≤ p → list_any (is_number level) (levels_down p) ≡ true
down_has p level h =
    let back : p - (p - level) ≡ level = omega arith in
    subst (λ (k : ℕ). list_any (is_number k) (levels_down p) ≡ true) back
    (mapped (λ below. p - below) (range_with_len 0 (p + 1)) (p - level)
    (in_range 0 (p + 1) (p - level) (omega arith) (omega arith)))

pub up_has : (p m level : ℕ) → p ≤ level → level ≤ m → list_any (is_number level) (levels_up p m) ≡ true
up_has p m level h k = in_range p (m + 1 - p) level h (omega arith)

-- What the searches of committed parts find, and what those of any part find after them.
abbrev pub committed_found : PoolState → ℕ → ℕ → ℕ → List Span
committed_found pool p m words =
    flat_map (found_at pool words true) (levels_up p (min (p + 2) m))
    ++ (flat_map (found_at pool words true) (levels_down p) ++ flat_map (found_at pool words true) (levels_up p m))

abbrev pub others_found : PoolState → ℕ → ℕ → ℕ → List Span
others_found pool p m words =
    flat_map (found_at pool words false) (levels_up p m) ++ (flat_map (found_at pool words false) (levels_down p) ++ [])

pub found_in_turn : (pool : PoolState) (p m words : ℕ) → committed_found pool p m words ++ others_found pool p m words
    ≡ candidates pool p m words
found_in_turn pool p m words =
    append_assoc (flat_map (found_at pool words true) (levels_up p (min (p + 2) m))) _ (others_found pool p m words)
    ∙ ap (λ l. flat_map (found_at pool words true) (levels_up p (min (p + 2) m)) ++ l)
    (append_assoc (flat_map (found_at pool words true) (levels_down p)) _ (others_found pool p m words))

pub found_is_enough : (pool : PoolState) (p m words : ℕ) → p ≤ m → has_committed_room pool m words ≡ true
    → is_committed_enough pool words (found_first pool p m words) ≡ true
found_is_enough pool p m words h room =
    subst (λ (parts : List Span). IsEnough pool words (unwrap_or (slice_get parts 0) (new_root pool)))
    (found_in_turn pool p m words)
    (first_joined (IsEnough pool words) (near ++ (down ++ up)) (others_found pool p m words) (new_root pool)
    (both_joined (IsEnough pool words) near (down ++ up) (enough_at_levels pool words (levels_up p (min (p + 2) m)))
    (both_joined (IsEnough pool words) down up (enough_at_levels pool words (levels_down p))
    (enough_at_levels pool words (levels_up p m))))
    (λ none. some (append_none near (down ++ up) none).1))
  where
    f : ℕ → List Span
    f level = found_at pool words true level

    near : List Span
    near = flat_map f (levels_up p (min (p + 2) m))

    down : List Span
    down = flat_map f (levels_down p)

    up : List Span
    up = flat_map f (levels_up p m)

    test : Span → Bool
    test part = nat_le part.level m && is_committed_enough pool words part

    some : down ++ up ≡ [] → ⊥
    some none =
        let found = Any-from_list_any test (free_parts pool.held pool.slots) room in
        let part = found.1 in
        let both = and_parts (nat_le part.level m) (is_committed_enough pool words part) found.4 in
        let here : Span → Bool =
        λ other. (other.level == part.level) && (not true || is_committed_enough pool words other) in
        let there : f part.level ≡ [] → ⊥ = filter_some here (free_parts pool.held pool.slots)
        (list_any_at here (free_parts pool.held pool.slots) found.0 part found.2
        (ap here found.3
        ∙ both_from (part.level == part.level) (is_committed_enough pool words part) (alike part.level) both.1)) in
        let empty = append_none down up none in
        elim (cases_lt part.level p) [
          | inl less ↦ given_some f (levels_down p) part.level (down_has p part.level (omega arith)) there empty.0
          | inr more ↦ given_some f (levels_up p m) part.level
              (up_has p m part.level more (leb-true part.level m both.0)) there empty.1
        ]
      where
        both_from : (a b : Bool) → a ≡ true → b ≡ true → (a && b) ≡ true
        both_from true true e k = refl
        both_from true false e k = k
        both_from false b e k = e

        alike : (n : ℕ) → (n == n) ≡ true
        alike n = grind arith

-- The part that is picked is one, and large enough for the words.
new_root_is_part : (n p : ℕ) → p ≤ highest_level → IsPart (n * node_words) p
new_root_is_part n p h = (
  h,
  ap (λ (k : ℕ). k % size_of p)
      (ap (λ (k : ℕ). n * k) (node_by_level p h) ∙ sym (mul_assoc n (2 ^ (p + 1)) (size_of p)))
      ∙ mul-mod_left (n * 2 ^ (p + 1)) (size_of p),
)

pub picked_is_part : (pool : PoolState) (p m words : ℕ) → p ≤ m → m ≤ highest_level
    → IsPart (picked pool p m words).start (picked pool p m words).level
picked_is_part pool p m words h k = elim (found_is_free_or_new pool p m words h) [
  | inl found ↦
      let some =
      Any-from_list_any (λ (other : Span). (other.start == part.start) && (other.level == part.level))
      (free_parts pool.held pool.slots) found.free in
      let both = and_parts (some.1.start == part.start) (some.1.level == part.level) some.4 in
      let start : some.1.start ≡ part.start = eqb-true some.1.start part.start both.0 in
      let level : some.1.level ≡ part.level = eqb-true some.1.level part.level both.1 in
      subst (λ (n : ℕ). IsPart n (max part.level p)) start
      (lowest_is_clear pool.held pool.slots some.1 (max part.level p) (some.0, some.2, some.3) (omega (arith, level))
      (omega (arith, found.serves))).placed
  | inr none ↦ subst (λ (one : Span). IsPart one.start (max one.level p)) (sym none.1)
      (subst (λ (level : ℕ). IsPart (lowest_unreserved pool.slots * node_words) level) (at_root p)
      (new_root_is_part (lowest_unreserved pool.slots) p (omega arith)))
]
  where
    part : Span
    part = found_first pool p m words

    at_root : (p : ℕ) → p ≡ max 0 p
    at_root p = omega arith

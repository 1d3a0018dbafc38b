-- Where a free part is large enough the searches find one; so a new root is taken only where a node
-- may be reserved, and it meets no chunk.
use Rattle.std.proofs.Common.{◌≡◌, ◌≢◌, ◌≤◌, ◌+◌, ◌-◌, ◌*◌, ℕ, zero, suc, Bool, true, false, cond, not, ◌&&◌, ◌||◌}
use Rattle.std.proofs.Common.{List, [], ◌∷◌, ◌++◌, length, refl, sym, ap, subst, ◌∙◌, arith, inl, inr}
use Rattle.std.specs.Prelude.{◌==◌, nat_le, Some}
use Rattle.std.specs.Option.{unwrap_or}
use Rattle.std.specs.List.{AllByRecursion, Any, filter, find, flat_map, list_any, list_all, range_with_len}
use Rattle.std.proofs.lemmas.Bool.{and_parts, and_from, or_from, or_cases, cases_lt, both_ways, leb-true, eqb-true}
use Rattle.std.proofs.lemmas.Bool.{eq-eqb}
use Rattle.std.proofs.lemmas.Bool.Decides.{nat_tests}
use Rattle.std.proofs.lemmas.Nat.{div-add-mod'}
use Rattle.std.proofs.lemmas.List.Folds.{Any-from_list_any, list_any_at, list_any-append}
use Rattle.ms_base.specs.declared.span.Chunk.{Chunk}
use Rattle.ms_base.specs.declared.span.Span.{Span}
use Rattle.ms_base.specs.Interval.{meet}
use Rattle.ms_base.specs.Level.{size_of}
use Rattle.ms_base.specs.Part.{IsPart, slot_of, is_reserved, node_words}
use Rattle.ms_base.specs.Held.{meets_chunk}
use Rattle.ms_base.specs.FreeParts.{free_parts}
use Rattle.ms_base.specs.State.{PoolState}
use Rattle.ms_base.specs.PoolSteps.Causes.{has_room}
use Rattle.ms_base.specs.Laws.{is_number}
use Rattle.ms_base.specs.PoolSteps.Pick.{candidates, found_at, levels_up, levels_down, lowest_unreserved}
use Rattle.ms_base.proofs.granules.GranuleLemmas.{ends_in_node}
use Rattle.ms_base.proofs.granules.EnoughLemmas.{committed_found, down_has, found_in_turn, others_found, up_has}

-- What an element of a list gives is among what all give.
some_given : {X : Type 0} (p : X → Bool) (f : ℕ → List X) (levels : List ℕ) (level : ℕ)
    → list_any (is_number level) levels ≡ true → list_any p (f level) ≡ true → list_any p (flat_map f levels) ≡ true
some_given p f [] level there some = absurd (cc)
some_given p f (l ∷ levels) level there some =
    list_any-append p (f l) (flat_map f levels)
    ∙ elim (or_cases (l == level) (list_any (is_number level) levels) there) [
      | inl here ↦ ap (λ b. b || list_any p (flat_map f levels)) (ap (λ k. list_any p (f k)) (eqb-true l level here) ∙ some)
      | inr later ↦ either (list_any p (f l)) (some_given p f levels level later some)
    ]
  where
    either : (b : Bool) {c : Bool} → c ≡ true → (b || c) ≡ true
    either true e = refl
    either false e = e

filter_some : (p : Span → Bool) (parts : List Span) → list_any p parts ≡ true → list_any p (filter p parts) ≡ true
filter_some p [] there = there
filter_some p (x ∷ parts) there =
    elim (p x) as (λ b. p x ≡ b → (b || list_any p parts) ≡ true
    → list_any p (cond b (x ∷ filter p parts) (filter p parts)) ≡ true) [
      | true ↦ λ here there. ap (λ b. b || list_any p (filter p parts)) here
      | false ↦ λ other there. filter_some p parts there
    ] refl there

-- Some test passes where a list is not empty.
abbrev is_any : Span → Bool
is_any part = true

some_any : (p : Span → Bool) (parts : List Span) → list_any p parts ≡ true → list_any is_any parts ≡ true
some_any p [] there = there
some_any p (x ∷ parts) there = refl

earlier_any : (xs ys : List Span) → list_any is_any xs ≡ true → list_any is_any (xs ++ ys) ≡ true
earlier_any xs ys some = list_any-append is_any xs ys ∙ ap (λ b. b || list_any is_any ys) some

later_any : (xs ys : List Span) → list_any is_any ys ≡ true → list_any is_any (xs ++ ys) ≡ true
later_any [] ys some = some
later_any (x ∷ xs) ys some = refl

-- With room for the level the searches find a part.
pub room_is_found : (pool : PoolState) (p m words : ℕ) → has_room pool m ≡ true → candidates pool p m words ≢ []
room_is_found pool p m words room none =
    both_ways (list_any is_any (candidates pool p m words)) (ap (list_any is_any) none) (elim (cases_lt part.level p) [
      | inl less ↦ after_committed (later_any any_up (any_down ++ [])
          (earlier_any any_down []
          (some_given is_any any (levels_down p) part.level (down_has p part.level (omega arith)) here)))
      | inr more ↦ after_committed (earlier_any any_up (any_down ++ [])
          (some_given is_any any (levels_up p m) part.level (up_has p m part.level more (leb-true part.level m found.4))
          here))
    ])
  where
    found : Any (λ (other : Span). nat_le other.level m ≡ true) (free_parts pool.held pool.slots)
    found = Any-from_list_any (λ (other : Span). nat_le other.level m) (free_parts pool.held pool.slots) room

    part : Span
    part = found.1

    any : ℕ → List Span
    any level = found_at pool words false level

    here : list_any is_any (any part.level) ≡ true
    here = some_any test (any part.level) (filter_some test (free_parts pool.held pool.slots)
        (list_any_at test (free_parts pool.held pool.slots) found.0 part found.2
        (ap test found.3 ∙ and_from (part.level == part.level) true (eq-eqb part.level part.level refl) refl)))
      where
        test : Span → Bool
        test other = (other.level == part.level) && true

    any_up : List Span
    any_up = flat_map any (levels_up p m)

    any_down : List Span
    any_down = flat_map any (levels_down p)

    after_committed : list_any is_any (any_up ++ (any_down ++ [])) ≡ true
        → list_any is_any (candidates pool p m words) ≡ true
    after_committed some = subst (λ (parts : List Span). list_any is_any parts ≡ true) (found_in_turn pool p m words)
        (later_any (committed_found pool p m words) (others_found pool p m words) some)

-- The lowest slot that isn't reserved is at most as many as are.
find_within : (p : ℕ → Bool) (a n : ℕ) → unwrap_or (find p (range_with_len a n)) 0 ≤ a + n - 1
find_within p a zero = omega arith
find_within p a (suc n) =
    elim (p a) as (λ b. unwrap_or (cond b (Some a) (find p (range_with_len (a + 1) n))) 0 ≤ a + suc n - 1) [
      | true ↦ omega arith
      | false ↦ omega (arith, find_within p (a + 1) n)
    ]

pub lowest_within : (slots : List ℕ) → lowest_unreserved slots ≤ length slots
lowest_within slots = omega (arith, find_within (λ slot. not (is_reserved slots slot)) 0 (length slots + 1))

-- A part of a slot that isn't reserved meets no chunk of those that are.
other_slots : (a s b t p q : ℕ) → p * node_words ≤ a → a + s ≤ p * node_words + node_words → q * node_words ≤ b
    → b + t ≤ q * node_words + node_words
    → p ≢ q → meet a s b t ≡ false
other_slots a s b t p q h k l m other = elim (cases_lt p q) [
  | inl less ↦ apart_below a s b t (omega arith)
  | inr more ↦ apart_above a s b t (omega (arith, other))
]
  where
    apart_below : (a s b t : ℕ) → a + s ≤ b → meet a s b t ≡ false
    apart_below a s b t h = grind (arith, nat_tests)

    apart_above : (a s b t : ℕ) → b + t ≤ a → meet a s b t ≡ false
    apart_above a s b t h = grind (arith, nat_tests)

pub new_slot_is_clear : (slots : List ℕ) (held : List Chunk) (start level : ℕ)
    → AllByRecursion (λ (chunk : Chunk). IsPart chunk.start chunk.level) held
    → list_all (λ (chunk : Chunk). is_reserved slots (slot_of chunk.start)) held ≡ true → IsPart start level
    → is_reserved slots (slot_of start) ≡ false → meets_chunk held start level ≡ false
new_slot_is_clear slots [] start level parts reserved part fresh = refl
new_slot_is_clear slots (c ∷ held) start level parts reserved part fresh =
    let both =
    and_parts (is_reserved slots (slot_of c.start))
    (list_all (λ (d : Chunk). is_reserved slots (slot_of d.start)) held) reserved in
    or_from (meet c.start (size_of c.level) start (size_of level)) (meets_chunk held start level)
    (other_slots c.start (size_of c.level) start (size_of level) (slot_of c.start) (slot_of start)
    (omega (arith, div-add-mod' c.start node_words)) (ends_in_node c.start c.level parts.0)
    (omega (arith, div-add-mod' start node_words)) (ends_in_node start level part)
    (λ same. both_ways (is_reserved slots (slot_of start)) fresh (ap (is_reserved slots) (sym same) ∙ both.0)))
    (new_slot_is_clear slots held start level parts.1 both.1 part fresh)

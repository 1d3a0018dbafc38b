-- How many granules are committed where chunks are given back or slots go, and how many there are
-- at most.
use Rattle.std.proofs.Common.{◌≡◌, ◌≤◌, ℕ, ◌+◌, ◌*◌, ◌/◌, Bool, true, false, cond, ◌&&◌, ◌||◌, List, [], ◌∷◌, ◌++◌}
use Rattle.std.proofs.Common.{length, refl, ap, ◌∙◌, arith, length-append}
use Rattle.std.specs.Prelude.{◌==◌}
use Rattle.std.specs.List.{list_any, filter, flat_map}
use Rattle.std.proofs.Math.Nat.{add-mul}
use Rattle.std.specs.Cmp.{both_ways as same_truth}
use Rattle.std.proofs.lemmas.Bool.{true_from_ne_false, or_left, or_right}
use Rattle.std.proofs.lemmas.List.Elements.{filter-append}
use Rattle.std.proofs.lemmas.List.FromFn.{length-range_with_len}
use Rattle.ms_base.specs.declared.policy.Policy.{Policy}
use Rattle.ms_base.specs.Policy.{granule_of, keeps}
use Rattle.ms_base.specs.declared.span.Chunk.{Chunk}
use Rattle.ms_base.specs.Interval.{meet}
use Rattle.ms_base.specs.Part.{node_words}
use Rattle.ms_base.specs.Committed.{is_committed, is_committed_now, is_among, committed_with, granules_of}
use Rattle.ms_base.specs.Laws.{is_number}
use Rattle.ms_base.proofs.granules.GranuleLemmas.{kept_by, passes_in}
use Rattle.ms_base.proofs.runs.ApartLemmas.{list_any-rest_of}

-- A narrower test passes at most as many.
fewer_pass : (p q : ℕ → Bool) (xs : List ℕ) → ((k : ℕ) → p k ≡ true → q k ≡ true)
    → length (filter p xs) ≤ length (filter q xs)
fewer_pass p q [] narrow = omega arith
fewer_pass p q (x ∷ xs) narrow =
    elim (p x) as (λ b. p x ≡ b
    → length (cond b (x ∷ filter p xs) (filter p xs)) ≤ length (cond (q x) (x ∷ filter q xs) (filter q xs))) [
      | true ↦ λ e. rw (narrow x e) (omega (arith, fewer_pass p q xs narrow))
      | false ↦ λ e. more (q x) (fewer_pass p q xs narrow)
    ] refl
  where
    more : (b : Bool) → length (filter p xs) ≤ length (filter q xs)
        → length (filter p xs) ≤ length (cond b (x ∷ filter q xs) (filter q xs))
    more true h = omega arith
    more false h = h

-- Chunks that are given back commit nothing more.
pub committed_rest : (policy : Policy) (before : List ℕ) (b mid a : List Chunk) (slots : List ℕ)
    → length (committed_with policy before (b ++ a) slots)
    ≤ length (committed_with policy before (b ++ (mid ++ a)) slots)
committed_rest policy before b mid a slots =
    fewer_pass (is_committed_now policy before (b ++ a)) (is_committed_now policy before (b ++ (mid ++ a)))
    (flat_map (granules_of granule) slots)
    (λ k passes. or_still (keeps policy && is_among before k) (is_committed granule (b ++ a) k)
    (is_committed granule (b ++ (mid ++ a)) k)
    (λ here. true_from_ne_false (is_committed granule (b ++ (mid ++ a)) k) (λ none.
    let gone = list_any-rest_of (λ (chunk : Chunk). meet chunk.start chunk.front (k * granule) granule) b mid a none in
    absurd (cc (gone, here)))) passes)
  where
    granule : ℕ
    granule = granule_of policy

    or_still : (x y z : Bool) → (y ≡ true → z ≡ true) → (x || y) ≡ true → (x || z) ≡ true
    or_still true y z f h = refl
    or_still false y z f h = f h

-- Slots that go take nothing more in.
pub fewer_slots : (p : ℕ → Bool) (granule : ℕ) (q : ℕ → Bool) (slots : List ℕ)
    → length (filter p (flat_map (granules_of granule) (filter q slots)))
    ≤ length (filter p (flat_map (granules_of granule) slots))
fewer_slots p granule q [] = omega arith
fewer_slots p granule q (slot ∷ slots) =
    elim (q slot) as (λ b. length
    (filter p (flat_map (granules_of granule) (cond b (slot ∷ filter q slots) (filter q slots))))
    ≤ length (filter p (flat_map (granules_of granule) (slot ∷ slots)))) [
      | true ↦ omega (arith, one (filter q slots), one slots, fewer_slots p granule q slots)
      | false ↦ omega (arith, one slots, fewer_slots p granule q slots)
    ]
  where
    one : (rest : List ℕ)
        → length (filter p (flat_map (granules_of granule) (slot ∷ rest)))
        ≡ length (filter p (granules_of granule slot)) + length (filter p (flat_map (granules_of granule) rest))
    one rest = ap length (filter-append p (granules_of granule slot) (flat_map (granules_of granule) rest))
        ∙ length-append (filter p (granules_of granule slot)) (filter p (flat_map (granules_of granule) rest))

-- Tests that agree on each number of a list pass the same of them.
agree_in : (p q : ℕ → Bool) (xs : List ℕ) → ((k : ℕ) → list_any (is_number k) xs ≡ true → p k ≡ q k)
    → filter p xs ≡ filter q xs
agree_in p q [] same = refl
agree_in p q (x ∷ xs) same =
    ap (λ b. cond b (x ∷ filter p xs) (filter p xs))
    (same x (or_left (x == x) (list_any (is_number x) xs) (same_number x)))
    ∙ ap (λ (l : List ℕ). cond (q x) (x ∷ l) l)
    (agree_in p q xs (λ k there. same k (or_right (x == k) (list_any (is_number k) xs) there)))
  where
    same_number : (n : ℕ) → (n == n) ≡ true
    same_number n = grind arith

-- The granules that were found committed are found so again.
pub committed_settles : (policy : Policy) (before : List ℕ) (held : List Chunk) (slots : List ℕ)
    → committed_with policy (committed_with policy before held slots) held slots
    ≡ committed_with policy before held slots
committed_settles policy before held slots = agree_in (is_committed_now policy found held) now numbers (λ k there.
    again (keeps policy) (is_among before k) (is_committed (granule_of policy) held k) (is_among found k)
    (same_truth (is_among found k) (now k) (λ h. passes_in now numbers k h) (λ h. kept_by now numbers k h there)))
  where
    numbers : List ℕ
    numbers = flat_map (granules_of (granule_of policy)) slots

    now : ℕ → Bool
    now k = is_committed_now policy before held k

    found : List ℕ
    found = committed_with policy before held slots

    again : (b among meets found : Bool) → found ≡ ((b && among) || meets)
        → ((b && found) || meets) ≡ ((b && among) || meets)
    again true among true found e = rw e (always among)
      where
        always : (among : Bool) → ((among || true) || true) ≡ (among || true)
        always true = refl
        always false = refl
    again true true false found e = rw e refl
    again true false false found e = rw e refl
    again false among meets found e = refl

-- The granules of a slot are as many as make up a node.
length_granules : (granule : ℕ) (slots : List ℕ)
    → length (flat_map (granules_of granule) slots) ≡ length slots * (node_words / granule)
length_granules granule [] = omega arith
length_granules granule (slot ∷ slots) =
    length-append (granules_of granule slot) (flat_map (granules_of granule) slots)
    ∙ omega (
      arith,
      length-range_with_len (slot * (node_words / granule)) (node_words / granule),
      length_granules granule slots,
      add-mul (length slots) 1 (node_words / granule),
    )

pub length_filter : (p : ℕ → Bool) (xs : List ℕ) → length (filter p xs) ≤ length xs
length_filter p [] = omega arith
length_filter p (x ∷ xs) = elim (p x) as (λ b. length (cond b (x ∷ filter p xs) (filter p xs)) ≤ length (x ∷ xs)) [
  | true ↦ omega (arith, length_filter p xs)
  | false ↦ omega (arith, length_filter p xs)
]

-- No more granules are committed than the reserved slots have.
pub committed_at_most : (p : ℕ → Bool) (granule : ℕ) (slots : List ℕ)
    → length (filter p (flat_map (granules_of granule) slots)) ≤ length slots * (node_words / granule)
committed_at_most p granule slots =
    omega (arith, length_filter p (flat_map (granules_of granule) slots), length_granules granule slots)

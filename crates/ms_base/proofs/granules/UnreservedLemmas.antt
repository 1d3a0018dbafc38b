-- The lowest slot that isn't reserved, and that none of its granules is committed.
use Rattle.std.proofs.Common.{◌≡◌, ◌≤◌, ◌<◌, ℕ, zero, suc, ◌+◌, ◌*◌, ◌/◌, Bool, true, false, not, ◌||◌}
use Rattle.std.proofs.Common.{List, [], ◌∷◌, length, refl, sym, ap, ◌∙◌, arith, inl, inr}
use Rattle.std.specs.Prelude.{◌==◌, ◌⊎◌}
use Rattle.std.specs.Ordering.{nat_cmp}
use Rattle.std.specs.Option.{unwrap_or}
use Rattle.std.specs.List.{list_any, find, range_with_len}
use Rattle.std.specs.List.Sorted.{IsStrictlySortedBy}
use Rattle.std.proofs.lemmas.Bool.{cases_lt, cases_eq, or_cases, both_ways, false_from_ne_true}
use Rattle.std.proofs.lemmas.Bool.{eqb-true}
use Rattle.ms_base.specs.declared.span.Chunk.{Chunk}
use Rattle.ms_base.specs.Interval.{meet}
use Rattle.ms_base.specs.Level.{size_of}
use Rattle.ms_base.specs.Part.{IsPart, node_words, slot_of, is_reserved}
use Rattle.ms_base.specs.State.{PoolState}
use Rattle.ms_base.specs.PoolSteps.Pick.{granule_in, has_committed}
use Rattle.ms_base.specs.PoolSteps.Pick.{lowest_unreserved}
use Rattle.ms_base.specs.Good.{IsSoundPool}
use Rattle.ms_base.proofs.granules.PolicyLemmas.{granules_make_nodes}
use Rattle.ms_base.proofs.granules.GranuleLemmas.{in_node, in_range, committed_are_counted}
use Rattle.ms_base.proofs.granules.SlotGranuleLemmas.{slot_is_there, not_there}

-- Rising numbers that have each of a range are as many at least.
as_many : (xs : List ℕ) (a n : ℕ) → IsStrictlySortedBy nat_cmp xs
    → ((k : ℕ) → a ≤ k → k < a + n → is_reserved xs k ≡ true) → n ≤ length xs
unfolding IsStrictlySortedBy
as_many [] a zero sorted each = omega arith
as_many [] a (suc n) sorted each = let wrong = each a (omega arith) (omega arith) in absurd (cc)
as_many (x ∷ xs) a zero sorted each = omega arith
as_many (x ∷ xs) a (suc n) sorted each = elim (cases_lt x a) [
  | inl below ↦ omega (arith, as_many xs a (suc n) sorted.1 (λ k h m. past k (omega arith) (each k h m)))
  | inr more ↦ elim (cases_eq x a) [
    | inl same ↦
        omega (
          arith,
          as_many xs (a + 1) n sorted.1 (λ k h m. past k (omega (arith, same, h)) (each k (omega arith) (omega arith))),
        )
    | inr other ↦
        absurd (both_ways (is_reserved (x ∷ xs) a) (none (omega (arith, more, other)))
        (each a (omega arith) (omega arith)))
  ]
]
  where
    past : (k : ℕ) → x < k → is_reserved (x ∷ xs) k ≡ true → is_reserved xs k ≡ true
    past k h there = elim (or_cases (x == k) (is_reserved xs k) there) [
      | inl here ↦ let e = eqb-true x k here in absurd (omega (arith, e, h))
      | inr later ↦ later
    ]

    none : a < x → is_reserved (x ∷ xs) a ≡ false
    none h = ap (λ b. b || is_reserved xs a) (unlike x a h) ∙ not_there x xs a h sorted.0
      where
        unlike : (x a : ℕ) → a < x → (x == a) ≡ false
        unlike x a h = grind (arith, h)

-- What is found passes the test, or nothing does.
found_passes : (p : ℕ → Bool) (xs : List ℕ) (other : ℕ)
    → (p (unwrap_or (find p xs) other) ≡ true) ⊎ ((k : ℕ) → list_any (λ (x : ℕ). x == k) xs ≡ true → p k ≡ false)
found_passes p [] other = inr (λ k there. absurd (cc))
found_passes p (x ∷ xs) other = go (p x) refl (found_passes p xs other)
  where
    go : (b : Bool) → p x ≡ b
        → ((p (unwrap_or (find p xs) other) ≡ true) ⊎ ((k : ℕ) → list_any (λ (y : ℕ). y == k) xs ≡ true → p k ≡ false))
        → (p (unwrap_or (find p (x ∷ xs)) other) ≡ true)
        ⊎ ((k : ℕ) → list_any (λ (y : ℕ). y == k) (x ∷ xs) ≡ true → p k ≡ false)
    go true e rest = inl (rw e e)
    go false e (inl found) = inl (rw e found)
    go false e (inr none) = inr (λ k there. elim (or_cases (x == k) (list_any (λ (y : ℕ). y == k) xs) there) [
      | inl here ↦ ap p (sym (eqb-true x k here)) ∙ e
      | inr later ↦ none k later
    ])

-- The lowest slot that isn't reserved is not.
pub lowest_is_not_reserved : (slots : List ℕ) → IsStrictlySortedBy nat_cmp slots
    → is_reserved slots (lowest_unreserved slots) ≡ false
lowest_is_not_reserved slots sorted = elim (found_passes free (range_with_len 0 (length slots + 1)) 0) [
  | inl found ↦ not_not (is_reserved slots (lowest_unreserved slots)) found
  | inr none ↦ let more =
      as_many slots 0 (length slots + 1) sorted
      (λ k h m. not_free (is_reserved slots k) (none k (in_range 0 (length slots + 1) k h m))) in
      absurd (omega (arith, more))
]
  where
    free : ℕ → Bool
    free slot = not (is_reserved slots slot)

    not_not : (b : Bool) → not b ≡ true → b ≡ false
    not_not true e = absurd (cc)
    not_not false e = refl

    not_free : (b : Bool) → not b ≡ false → b ≡ true
    not_free true e = refl
    not_free false e = absurd (cc)

-- The granules that the front of a picked chunk meets are missing.
pub none_there : (pool : PoolState) (chunk : Chunk) → IsSoundPool pool → IsPart chunk.start chunk.level
    → chunk.front ≤ size_of chunk.level
    → is_reserved pool.slots (slot_of chunk.start) ≡ false → (k : ℕ)
    → meet chunk.start chunk.front (k * granule_in pool) (granule_in pool) ≡ true → has_committed pool k ≡ false
none_there pool chunk sound placed within fresh k meets = false_from_ne_true (has_committed pool k) (λ there.
    let own =
    in_node granule (node_words / granule) chunk k (granules_make_nodes pool.limits.policy) placed within meets in
    both_ways (is_reserved pool.slots (slot_of chunk.start)) fresh
    (slot_is_there granule pool.slots (slot_of chunk.start) k ((committed_are_counted pool k sound).reserved there)
    own.0 own.1))
  where
    granule : ℕ
    granule = granule_in pool

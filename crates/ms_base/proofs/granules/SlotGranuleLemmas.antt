-- The committed granules once a slot more is reserved, and once a chunk is lent.
use Rattle.std.proofs.Common.{◌≡◌, ◌≤◌, ◌<◌, ℕ, zero, suc, ◌+◌, ◌*◌, ◌/◌, Bool, true, false}
use Rattle.std.proofs.Common.{List, [], ◌∷◌, ◌++◌, refl, sym, ap, ◌∙◌, arith, inl, inr}
use Rattle.std.specs.Prelude.{◌==◌}
use Rattle.std.specs.List.{AllByRecursion, list_any, flat_map, filter, range_with_len}
use Rattle.std.specs.List.Sorted.{IsStrictlySortedBy}
use Rattle.std.specs.BTreeSet.{insert_key}
use Rattle.std.proofs.lemmas.List.{append-nil}
use Rattle.std.proofs.lemmas.List.Folds.{list_any-append}
use Rattle.std.specs.Ordering.{nat_cmp, match_ordering}
use Rattle.std.specs.declared.cmp.Ordering.TheVariants.{Less, Equal, Greater}
use Rattle.std.proofs.lemmas.Bool.{or_cases, or_from, or_left, or_right, both_ways}
use Rattle.std.proofs.lemmas.Bool.{false_from_ne_true, eqb-true}
use Rattle.std.proofs.lemmas.Bool.Decides.{nat_tests}
use Rattle.std.proofs.lemmas.List.Elements.{filter-append}
use Rattle.std.proofs.lemmas.Map.Keys.{sorted_from_strictly_increasing}
use Rattle.ms_base.specs.Part.{node_words, is_reserved}
use Rattle.ms_base.specs.Committed.{granules_of}
use Rattle.ms_base.specs.State.{PoolState}
use Rattle.ms_base.specs.PoolSteps.Pick.{granule_in, has_committed}
use Rattle.ms_base.specs.Good.{IsSoundPool}
use Rattle.ms_base.specs.Laws.{is_number}
use Rattle.ms_base.proofs.granules.GranuleLemmas.{committed_are_counted}
use Rattle.ms_base.proofs.granules.BetweenLemmas.{none_in}
use Rattle.ms_base.proofs.granules.GranuleCountLemmas.{one_slot, below_of, committed_in_slots}
use Rattle.std.proofs.Common.{◌||◌}
use Rattle.std.proofs.Common.{length}
use Rattle.std.proofs.Math.Bool.{or-false}
use Rattle.ms_base.specs.declared.span.Chunk.{Chunk}
use Rattle.ms_base.specs.Level.{size_of}
use Rattle.ms_base.specs.Part.{IsPart, slot_of}
use Rattle.ms_base.specs.Committed.{is_committed}
use Rattle.ms_base.specs.State.{committed_now}
use Rattle.ms_base.specs.PoolSteps.{slots_with}
use Rattle.ms_base.specs.Laws.Sum.{with_lent}
use Rattle.ms_base.proofs.machine.SlotLemmas.{reserved_with, slots_rise_with}
use Rattle.ms_base.specs.PoolSteps.Causes.{granules_missing}
use Rattle.ms_base.proofs.granules.GranuleCountLemmas.{meets_front, count_with_front}

-- A slot that is new has none of them.
range_members : (a n k : ℕ) → list_any (is_number k) (range_with_len a n) ≡ true → (a ≤ k) × (k < a + n)
range_members a zero k there = absurd (cc)
range_members a (suc n) k there = elim (or_cases (a == k) (list_any (is_number k) (range_with_len (a + 1) n)) there) [
  | inl here ↦ let e = eqb-true a k here in (omega (arith, e), omega (arith, e))
  | inr later ↦ let rest = range_members (a + 1) n k later in (omega (arith, rest.0), omega (arith, rest.1))
]

pub slot_is_there : (granule : ℕ) (slots : List ℕ) (slot k : ℕ)
    → list_any (is_number k) (flat_map (granules_of granule) slots) ≡ true
    → slot * (node_words / granule) ≤ k → k < slot * (node_words / granule) + node_words / granule
    → is_reserved slots slot ≡ true
slot_is_there granule [] slot k there low high = absurd (cc)
slot_is_there granule (t ∷ slots) slot k there low high =
    elim (or_cases (list_any (is_number k) (granules_of granule t))
    (list_any (is_number k) (flat_map (granules_of granule) slots))
    (sym (list_any-append (is_number k) (granules_of granule t) (flat_map (granules_of granule) slots)) ∙ there)) [
      | inl here ↦ let own = range_members (t * (node_words / granule)) (node_words / granule) k here in
          or_left (t == slot) (is_reserved slots slot)
          (same_number t slot (one_slot (node_words / granule) slot t k low high own.0 own.1))
      | inr later ↦ or_right (t == slot) (is_reserved slots slot) (slot_is_there granule slots slot k later low high)
    ]
  where
    same_number : (a b : ℕ) → a ≡ b → (a == b) ≡ true
    same_number a b e = grind (arith, e)

pub not_there : (t : ℕ) (slots : List ℕ) (slot : ℕ) → slot < t → AllByRecursion (λ (y : ℕ). nat_cmp t y ≡ Less) slots
    → is_reserved slots slot ≡ false
not_there t [] slot less later = refl
not_there t (y ∷ slots) slot less later =
    let over = below_of t y later.0 in
    or_from (y == slot) (is_reserved slots slot) (unlike y slot (omega (arith, over, less)))
    (not_there t slots slot less later.1)
  where
    unlike : (a b : ℕ) → b < a → (a == b) ≡ false
    unlike a b h = grind (arith, h)

filter_with_slot : (test : ℕ → Bool) (granule : ℕ) (slots : List ℕ) (slot : ℕ) → IsStrictlySortedBy nat_cmp slots
    → (is_reserved slots slot ≡ false → filter test (granules_of granule slot) ≡ [])
    → filter test (flat_map (granules_of granule) (insert_key nat_cmp slots slot))
    ≡ filter test (flat_map (granules_of granule) slots)
unfolding IsStrictlySortedBy
filter_with_slot test granule [] slot sorted fresh =
    filter-append test (granules_of granule slot) [] ∙ append-nil (filter test (granules_of granule slot)) ∙ fresh refl
filter_with_slot test granule (t ∷ slots) slot sorted fresh =
    elim (nat_cmp slot t) as (λ o. nat_cmp slot t ≡ o
    → filter test
    (flat_map (granules_of granule)
    (match_ordering o (slot ∷ t ∷ slots) (t ∷ slots) (t ∷ insert_key nat_cmp slots slot)))
    ≡ filter test (flat_map (granules_of granule) (t ∷ slots))) [
      | Less ↦ λ p. let less = below_of slot t p in
          filter-append test (granules_of granule slot) (flat_map (granules_of granule) (t ∷ slots))
          ∙ ap (λ (l : List ℕ). l ++ filter test (flat_map (granules_of granule) (t ∷ slots)))
          (fresh (or_from (t == slot) (is_reserved slots slot) (unlike t slot less)
          (not_there t slots slot less sorted.0)))
      | Equal ↦ λ p. refl
      | Greater ↦ λ p.
          filter-append test (granules_of granule t) (flat_map (granules_of granule) (insert_key nat_cmp slots slot))
          ∙ ap (λ (l : List ℕ). filter test (granules_of granule t) ++ l)
          (filter_with_slot test granule slots slot sorted.1
          (λ none. fresh (or_from (t == slot) (is_reserved slots slot) (unlike_other t slot (over slot t p)) none)))
          ∙ sym (filter-append test (granules_of granule t) (flat_map (granules_of granule) slots))
    ] refl
  where
    unlike : (a b : ℕ) → b < a → (a == b) ≡ false
    unlike a b h = grind (arith, h)

    unlike_other : (a b : ℕ) → a < b → (a == b) ≡ false
    unlike_other a b h = grind (arith, h)

    over : (a b : ℕ) → nat_cmp a b ≡ Greater → b < a
    over a b e = grind (arith, nat_tests, e)

pub committed_with_slot : (pool : PoolState) (slot : ℕ) → IsSoundPool pool
    → filter (has_committed pool) (flat_map (granules_of (granule_in pool)) (insert_key nat_cmp pool.slots slot))
    ≡ pool.committed
committed_with_slot pool slot sound =
    filter_with_slot (has_committed pool) granule pool.slots slot
    (sorted_from_strictly_increasing pool.slots sound.slots)
    (λ fresh. none_in (has_committed pool) (slot * (node_words / granule)) (node_words / granule) (λ k low high.
    false_from_ne_true (has_committed pool k) (λ there.
    both_ways (is_reserved pool.slots slot) fresh
    (slot_is_there granule pool.slots slot k ((committed_are_counted pool k sound).reserved there) low high))))
    ∙ committed_in_slots pool sound
  where
    granule : ℕ
    granule = granule_in pool

-- A chunk lent last.
pub lending_commits_the_missing : (pool : PoolState) (chunk : Chunk) → IsSoundPool pool → IsPart chunk.start chunk.level
    → 1 ≤ chunk.front
    → chunk.front ≤ size_of chunk.level → length (committed_now (with_lent pool chunk))
    ≡ length pool.committed + granules_missing pool chunk
lending_commits_the_missing pool chunk sound placed some within =
    count_with_front pool (pool.held ++ chunk ∷ []) (slots_with pool.slots chunk.start) chunk sound placed some within
    (slots_rise_with pool.slots (slot_of chunk.start) sound.slots) (reserved_with pool.slots (slot_of chunk.start))
    (committed_with_slot pool (slot_of chunk.start) sound)
    (λ k. list_any-append (λ (c : Chunk). meets_front (granule_in pool) c k) pool.held (chunk ∷ [])
    ∙ ap (λ b. is_committed (granule_in pool) pool.held k || b) (or-false (meets_front (granule_in pool) chunk k)))

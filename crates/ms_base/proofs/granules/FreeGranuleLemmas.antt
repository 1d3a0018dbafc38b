-- A granule that meets a free part is committed exactly where the part is smaller than it. The laws
-- on free parts and granules use this.
use Rattle.std.proofs.Common.{◌≡◌, ◌≤◌, ◌<◌, ℕ, ◌+◌, ◌-◌, ◌*◌, ◌%◌, true, false, List, sym, ap, ◌∙◌, inl, inr, arith}
use Rattle.std.proofs.Common.{length, get_or}
use Rattle.std.specs.Prelude.{◌==◌, nat_lt}
use Rattle.std.specs.List.{All, Any}
use Rattle.std.proofs.lemmas.Bool.{cases_lt, or_cases, and_parts, both_ways, false_from_ne_true, eqb-true, ltb-true}
use Rattle.std.proofs.lemmas.Bool.{lt-ltb, le-ltb}
use Rattle.std.proofs.lemmas.Bool.Decides.{nat_tests}
use Rattle.std.proofs.lemmas.List.Elements.{All-contains}
use Rattle.std.proofs.lemmas.List.Folds.{list_any_at, list_any_none, Any-from_list_any}
use Rattle.std.proofs.Math.Nat.{mul-mod_left}
use Rattle.ms_base.specs.declared.policy.Policy.{Policy}
use Rattle.ms_base.specs.Policy.{granule_of}
use Rattle.ms_base.specs.declared.span.Chunk.{Chunk}
use Rattle.ms_base.specs.declared.span.Span.{Span}
use Rattle.ms_base.specs.Interval.{meet}
use Rattle.ms_base.specs.Level.{size_of, highest_level}
use Rattle.ms_base.specs.Part.{IsPart, parent_start}
use Rattle.ms_base.specs.Front.{HasFront}
use Rattle.ms_base.specs.Held.{AreHeld, meets_chunk}
use Rattle.ms_base.specs.FreeParts.{IsFreePart}
use Rattle.ms_base.specs.Committed.{is_committed}
use Rattle.ms_base.proofs.granules.PolicyLemmas.{IsGranule}
use Rattle.ms_base.proofs.free.PartLemmas.{parts_are_nested_or_apart}
use Rattle.ms_base.proofs.free.HalvesLemmas.{size_some, size_falls, size_falls_strictly}
use Rattle.ms_base.proofs.free.RoomLemmas.{clear_within}
use Rattle.ms_base.proofs.free.LargestLemmas.{inside_bounds, parent_is_whole, parent_around, ends_in_parent}

-- Runs that meet start below each other's ends, and the other way round.
pub meets_bounds : (a m b n : ℕ) → meet a m b n ≡ true → (a < b + n) × (b < a + m)
meets_bounds a m b n e = let both = and_parts (nat_lt a (b + n)) (nat_lt b (a + m)) e in
    (ltb-true a (b + n) both.0, ltb-true b (a + m) both.1)

pub bounds_meet : (a m b n : ℕ) → a < b + n → b < a + m → meet a m b n ≡ true
bounds_meet a m b n h k = grind (arith, nat_tests)

-- Of two parts that meet, one of a greater level lies in the other.
pub meeting_lies_in : (a l b k : ℕ) → IsPart a l → IsPart b k → l ≤ k → meet a (size_of l) b (size_of k) ≡ true
    → (a ≤ b) × (b + size_of k ≤ a + size_of l)
meeting_lies_in a l b k first second h meets = elim (parts_are_nested_or_apart a l b k first second h) [
  | inl inside ↦ inside_bounds b (size_of k) a (size_of l) inside
  | inr apart ↦ absurd (both_ways (meet a (size_of l) b (size_of k)) apart meets)
]

-- A chunk of a list meets no part that the list meets nowhere.
one_is_apart : (held : List Chunk) (b k i : ℕ) (d : Chunk) → i < length held → meets_chunk held b k ≡ false
    → meet (get_or held i d).start (size_of (get_or held i d).level) b (size_of k) ≡ false
one_is_apart held b k i d h clear =
    false_from_ne_true (meet (get_or held i d).start (size_of (get_or held i d).level) b (size_of k))
    (λ meets. both_ways (meets_chunk held b k) clear
    (list_any_at (λ (chunk : Chunk). meet chunk.start (size_of chunk.level) b (size_of k)) held i d h meets))

-- A granule that meets no chunk holds no word of a front.
clear_is_uncommitted : (policy : Policy) (held : List Chunk) (number k : ℕ) → granule_of policy ≡ size_of k
    → All (HasFront policy) held → meets_chunk held (number * granule_of policy) k ≡ false
    → is_committed (granule_of policy) held number ≡ false
clear_is_uncommitted policy held number k e fronts clear =
    list_any_none (λ (chunk : Chunk). meet chunk.start chunk.front (number * granule_of policy) (granule_of policy))
    held
    (λ i d h. shorter (get_or held i d).start (size_of (get_or held i d).level) (get_or held i d).front
    (number * granule_of policy) (granule_of policy) (fronts i d h).within
    (ap (λ (n : ℕ). meet (get_or held i d).start (size_of (get_or held i d).level) (number * granule_of policy) n) e
    ∙ one_is_apart held (number * granule_of policy) k i d h clear))
  where
    shorter : (c t f b n : ℕ) → f ≤ t → meet c t b n ≡ false → meet c f b n ≡ false
    shorter c t f b n h m = grind (arith, nat_tests)

-- A granule that meets a free part of its size or more is not committed.
pub large_is_uncommitted : (policy : Policy) (held : List Chunk) (slots : List ℕ) (part : Span) (number k : ℕ)
    → granule_of policy ≡ size_of k → k ≤ highest_level → AreHeld policy slots held → IsFreePart held slots part
    → meet part.start (size_of part.level) (number * granule_of policy) (granule_of policy) ≡ true → part.level ≤ k
    → is_committed (granule_of policy) held number ≡ false
large_is_uncommitted policy held slots part number k e small good free meets large =
    clear_is_uncommitted policy held number k e good.fronts
    (clear_within held part.start part.level (number * granule_of policy) k inside.0 inside.1 free.empty)
  where
    whole : number * granule_of policy % size_of k ≡ 0
    whole = ap (λ (n : ℕ). number * n % size_of k) e ∙ mul-mod_left number (size_of k)

    inside : (part.start ≤ number * granule_of policy)
        × (number * granule_of policy + size_of k ≤ part.start + size_of part.level)
    inside = meeting_lies_in part.start part.level (number * granule_of policy) k free.placed (small, whole) large
        (ap (λ (n : ℕ). meet part.start (size_of part.level) (number * granule_of policy) n) (sym e) ∙ meets)

-- The chunk that keeps a free part from being larger lies in the part's parent, and is no larger
-- than the part.
keeper_in_parent : (part : Span) (chunk : Chunk) → IsPart part.start part.level → 1 ≤ part.level
    → IsPart chunk.start chunk.level
    → meet chunk.start (size_of chunk.level) (parent_start part.start part.level) (size_of (part.level - 1)) ≡ true
    → meet chunk.start (size_of chunk.level) part.start (size_of part.level) ≡ false
    → (part.level ≤ chunk.level) × (parent_start part.start part.level ≤ chunk.start)
    × (chunk.start + size_of chunk.level ≤ parent_start part.start part.level + size_of (part.level - 1))
keeper_in_parent part chunk placed below held meets apart = elim (cases_lt (part.level - 1) chunk.level) [
  | inl smaller ↦ let bounds = meets_bounds chunk.start (size_of chunk.level) parent (size_of (part.level - 1)) meets in
      let inside = meeting_lies_in parent (part.level - 1) chunk.start chunk.level parent_placed held (omega arith)
      (bounds_meet parent (size_of (part.level - 1)) chunk.start (size_of chunk.level) bounds.1 bounds.0) in
      (omega arith, inside.0, inside.1)
  | inr larger ↦ let around =
      meeting_lies_in chunk.start chunk.level parent (part.level - 1) held parent_placed larger meets in
      absurd (both_ways (meet chunk.start (size_of chunk.level) part.start (size_of part.level)) apart
      (bounds_meet chunk.start (size_of chunk.level) part.start (size_of part.level)
      (omega (arith, around.0, (parent_around part.start part.level).0, size_some part.level))
      (omega (arith, around.1, (parent_around part.start part.level).1))))
]
  where
    parent : ℕ
    parent = parent_start part.start part.level

    parent_placed : IsPart parent (part.level - 1)
    parent_placed = (omega (arith, placed.0), parent_is_whole part.start part.level)

-- A granule that meets a free part smaller than it is committed.
pub small_is_committed : (policy : Policy) (held : List Chunk) (slots : List ℕ) (part : Span) (number k : ℕ)
    → granule_of policy ≡ size_of k → k ≤ highest_level → AreHeld policy slots held → IsFreePart held slots part
    → meet part.start (size_of part.level) (number * granule_of policy) (granule_of policy) ≡ true → k < part.level
    → is_committed (granule_of policy) held number ≡ true
small_is_committed policy held slots part number k e small good free meets less =
    list_any_at (λ (chunk : Chunk). meet chunk.start chunk.front (number * granule_of policy) (granule_of policy))
    held keeper.0 keeper.1 keeper.2
    (ap (λ (chunk : Chunk). meet chunk.start chunk.front (number * granule_of policy) (granule_of policy)) keeper.3
    ∙ bounds_meet chunk.start chunk.front (number * granule_of policy) (granule_of policy)
    (omega (arith, inside.2, around.1, size_some chunk.level, e)) (omega (arith, around.0, inside.1, front.some)))
  where
    parent : ℕ
    parent = parent_start part.start part.level

    parent_meets : meets_chunk held parent (part.level - 1) ≡ true
    parent_meets = elim (or_cases (part.level == 0) (meets_chunk held parent (part.level - 1)) free.largest) [
      | inl root ↦ no_root (eqb-true part.level 0 root) less
      | inr meets ↦ meets
    ]
      where
        no_root : part.level ≡ 0 → k < part.level → meets_chunk held parent (part.level - 1) ≡ true
        no_root e h = absurd (omega arith)

    keeper : Any (λ (chunk : Chunk). meet chunk.start (size_of chunk.level) parent (size_of (part.level - 1)) ≡ true)
        held
    keeper = Any-from_list_any
        (λ (chunk : Chunk). meet chunk.start (size_of chunk.level) parent (size_of (part.level - 1))) held parent_meets

    chunk : Chunk
    chunk = keeper.1

    front : HasFront policy chunk
    front = All-contains (HasFront policy) held chunk good.fronts (keeper.0, keeper.2, keeper.3)

    apart : meet chunk.start (size_of chunk.level) part.start (size_of part.level) ≡ false
    apart = ap (λ (other : Chunk). meet other.start (size_of other.level) part.start (size_of part.level))
        (sym keeper.3)
        ∙ one_is_apart held part.start part.level keeper.0 chunk keeper.2 free.empty

    inside : (part.level ≤ chunk.level) × (parent ≤ chunk.start)
        × (chunk.start + size_of chunk.level ≤ parent + size_of (part.level - 1))
    inside = keeper_in_parent part chunk free.placed (omega arith)
        (All-contains (λ (other : Chunk). IsPart other.start other.level) held chunk good.parts
        (keeper.0, keeper.2, keeper.3)) keeper.4 apart

    around : (number * granule_of policy ≤ parent)
        × (parent + size_of (part.level - 1) ≤ number * granule_of policy + size_of k)
    around = let bounds =
        meets_bounds part.start (size_of part.level) (number * granule_of policy) (granule_of policy) meets in
        meeting_lies_in (number * granule_of policy) k parent (part.level - 1)
        (small, ap (λ (n : ℕ). number * n % size_of k) e ∙ mul-mod_left number (size_of k))
        (omega (arith, free.placed.0), parent_is_whole part.start part.level) (omega arith)
        (bounds_meet (number * granule_of policy) (size_of k) parent (size_of (part.level - 1))
        (omega (arith, bounds.1, ends_in_parent part.start part.level free.placed))
        (omega (arith, bounds.0, e, (parent_around part.start part.level).0)))

-- A granule that meets a free part is committed exactly where the part is smaller.
pub committed_where_small : (policy : Policy) (held : List Chunk) (slots : List ℕ) (part : Span) (number : ℕ)
    → IsGranule (granule_of policy) → AreHeld policy slots held → IsFreePart held slots part
    → meet part.start (size_of part.level) (number * granule_of policy) (granule_of policy) ≡ true
    → is_committed (granule_of policy) held number ≡ nat_lt (size_of part.level) (granule_of policy)
committed_where_small policy held slots part number of_level good free meets =
    elim (cases_lt of_level.level part.level) [
      | inl less ↦ small_is_committed policy held slots part number of_level.level of_level.is of_level.below good free
          meets less
          ∙ sym (lt-ltb (size_of part.level) (granule_of policy)
          (omega (arith, size_falls_strictly of_level.level part.level less free.placed.0, of_level.is)))
      | inr large ↦ large_is_uncommitted policy held slots part number of_level.level of_level.is of_level.below good free
          meets large
          ∙ sym (le-ltb (size_of part.level) (granule_of policy)
          (omega (arith, size_falls part.level of_level.level large, of_level.is)))
    ]

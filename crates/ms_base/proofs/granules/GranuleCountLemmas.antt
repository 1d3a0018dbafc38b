-- How many granules are committed once a chunk is lent or grown: those before, and those that its
-- front meets which were missing.
use Rattle.std.proofs.Common.{◌≡◌, ◌≤◌, ◌<◌, ℕ, ◌+◌, ◌-◌, ◌*◌, ◌/◌, Bool, true, false, not, ◌&&◌, ◌||◌}
use Rattle.std.proofs.Common.{List, [], ◌∷◌, ◌++◌, length, refl, sym, ap, ◌∙◌, arith, inl, inr}
use Rattle.std.specs.Prelude.{◌==◌}
use Rattle.std.specs.List.{AllByRecursion, flat_map, filter}
use Rattle.std.specs.List.Sorted.{IsStrictlySortedBy, IsStrictlyIncreasing}
use Rattle.std.specs.Cmp.{both_ways as same_truth}
use Rattle.std.proofs.lemmas.List.{append-nil}
use Rattle.std.specs.Ordering.{nat_cmp}
use Rattle.std.specs.declared.cmp.Ordering.TheVariants.{Less}
use Rattle.std.proofs.lemmas.Nat.{div-add-mod', le-div}
use Rattle.std.proofs.Math.Nat.{add-mul}
use Rattle.std.proofs.lemmas.Bool.{cases_eq, or_cases}
use Rattle.std.proofs.lemmas.Bool.{false_from_ne_true, eqb-true}
use Rattle.std.proofs.lemmas.Bool.Decides.{nat_tests}
use Rattle.std.proofs.lemmas.List.Elements.{filter-append, filter_agree}
use Rattle.std.proofs.lemmas.Map.Keys.{sorted_from_strictly_increasing}
use Rattle.ms_base.specs.declared.span.Chunk.{Chunk}
use Rattle.ms_base.specs.Policy.{keeps}
use Rattle.ms_base.specs.Interval.{meet}
use Rattle.ms_base.specs.Level.{size_of}
use Rattle.ms_base.specs.Part.{IsPart, node_words, slot_of, is_reserved}
use Rattle.ms_base.specs.Committed.{is_committed, is_committed_now, committed_with, granules_of, granules_meeting}
use Rattle.ms_base.specs.State.{PoolState}
use Rattle.ms_base.specs.PoolSteps.Pick.{granule_in, has_committed}
use Rattle.ms_base.specs.PoolSteps.Causes.{granules_missing}
use Rattle.ms_base.specs.Good.{IsSoundPool}
use Rattle.ms_base.proofs.granules.PolicyLemmas.{granules_make_nodes, granule_some}
use Rattle.ms_base.proofs.granules.GranuleLemmas.{below_from_product, in_node}
use Rattle.ms_base.proofs.granules.GranuleLemmas.{committed_where_now, committed_where_front}
use Rattle.ms_base.proofs.granules.BetweenLemmas.{count_or, between, none_in, is_between, kept_between, meets_between}

-- A chunk's front meets a granule.
abbrev pub meets_front : ℕ → Chunk → ℕ → Bool
meets_front granule chunk k = meet chunk.start chunk.front (k * granule) granule

-- A granule lies in one slot alone.
pub one_slot : (per s t k : ℕ) → s * per ≤ k → k < s * per + per → t * per ≤ k → k < t * per + per → t ≡ s
one_slot per s t k low high other_low other_high = omega (arith, first, second)
  where
    first : t < s + 1
    first = below_from_product t (s + 1) per (omega (arith, other_low, high, add-mul s 1 per))

    second : s < t + 1
    second = below_from_product s (t + 1) per (omega (arith, low, other_high, add-mul t 1 per))

pub below_of : (a b : ℕ) → nat_cmp a b ≡ Less → a < b
below_of a b e = grind (arith, nat_tests, e)

-- A part with a front, and granules that make up nodes.
record IsFronted (granule : ℕ) (chunk : Chunk) : Type 0 where
  whole : node_words / granule * granule ≡ node_words
  some_granule : 1 ≤ granule
  placed : IsPart chunk.start chunk.level
  some : 1 ≤ chunk.front
  within : chunk.front ≤ size_of chunk.level

in_other_slot : (granule : ℕ) (chunk : Chunk) (slot : ℕ) → IsFronted granule chunk → (slot ≡ slot_of chunk.start → ⊥)
    → filter (meets_front granule chunk) (granules_of granule slot) ≡ []
in_other_slot granule chunk slot fronted differ = none_in (meets_front granule chunk) (slot * per) per (λ k low high.
    false_from_ne_true (meets_front granule chunk k) (λ meets.
    let own = in_node granule per chunk k fronted.whole fronted.placed fronted.within meets in
    absurd (differ (one_slot per (slot_of chunk.start) slot k own.0 own.1 low high))))
  where
    per : ℕ
    per = node_words / granule

in_own_slot : (granule : ℕ) (chunk : Chunk) → IsFronted granule chunk
    → filter (meets_front granule chunk) (granules_of granule (slot_of chunk.start))
    ≡ granules_meeting granule chunk.start chunk.front
in_own_slot granule chunk fronted =
    filter_agree (meets_front granule chunk) (between low high)
    (λ k. meets_between granule chunk.start chunk.front k fronted.some_granule fronted.some)
    (granules_of granule slot)
    ∙ ap (λ (n : ℕ). filter (between low n) (granules_of granule slot)) ends
    ∙ kept_between (slot * per) per low (high - low) (omega (arith, first_in.0)) (omega (arith, ends, last_in.1))
  where
    per : ℕ
    per = node_words / granule

    slot : ℕ
    slot = slot_of chunk.start

    low : ℕ
    low = chunk.start / granule

    last : ℕ
    last = (chunk.start + chunk.front - 1) / granule

    high : ℕ
    high = last + 1

    rises : low ≤ last
    rises = le-div low (chunk.start + chunk.front - 1) granule (omega (arith, fronted.some_granule))
        (omega (arith, div-add-mod' chunk.start granule, fronted.some))

    ends : high ≡ low + (high - low)
    ends = omega (arith, rises)

    meets_at : (k : ℕ) → low ≤ k → k ≤ last → meets_front granule chunk k ≡ true
    meets_at k h m = meets_between granule chunk.start chunk.front k fronted.some_granule fronted.some
        ∙ is_between low high k h (omega arith)

    first_in : (slot * per ≤ low) × (low < slot * per + per)
    first_in =
        in_node granule per chunk low fronted.whole fronted.placed fronted.within (meets_at low (omega arith) rises)

    last_in : (slot * per ≤ last) × (last < slot * per + per)
    last_in =
        in_node granule per chunk last fronted.whole fronted.placed fronted.within (meets_at last rises (omega arith))

none_in_later : (granule : ℕ) (chunk : Chunk) (slots : List ℕ) → IsFronted granule chunk
    → AllByRecursion (λ (slot : ℕ). nat_cmp (slot_of chunk.start) slot ≡ Less) slots
    → filter (meets_front granule chunk) (flat_map (granules_of granule) slots) ≡ []
none_in_later granule chunk [] fronted later = refl
none_in_later granule chunk (t ∷ slots) fronted later =
    filter-append (meets_front granule chunk) (granules_of granule t) (flat_map (granules_of granule) slots)
    ∙ ap (λ (l : List ℕ). l ++ filter (meets_front granule chunk) (flat_map (granules_of granule) slots))
    (in_other_slot granule chunk t fronted
    (λ e. let less = below_of (slot_of chunk.start) t later.0 in absurd (omega (arith, less, e))))
    ∙ none_in_later granule chunk slots fronted later.1

-- The granules of the slots that meet a chunk's front are those that the front meets.
front_in_slots : (granule : ℕ) (chunk : Chunk) (slots : List ℕ) → IsFronted granule chunk
    → IsStrictlySortedBy nat_cmp slots
    → is_reserved slots (slot_of chunk.start) ≡ true
    → filter (meets_front granule chunk) (flat_map (granules_of granule) slots)
    ≡ granules_meeting granule chunk.start chunk.front
unfolding IsStrictlySortedBy
front_in_slots granule chunk [] fronted sorted reserved = absurd (cc)
front_in_slots granule chunk (t ∷ slots) fronted sorted reserved =
    filter-append test (granules_of granule t) rest ∙ elim (cases_eq t (slot_of chunk.start)) [
      | inl own ↦
          ap (λ (slot : ℕ). filter test (granules_of granule slot) ++ filter test rest) own
          ∙ ap (λ (l : List ℕ). filter test (granules_of granule (slot_of chunk.start)) ++ l)
          (none_in_later granule chunk slots fronted (rw own at sorted.0))
          ∙ append-nil (filter test (granules_of granule (slot_of chunk.start))) ∙ in_own_slot granule chunk fronted
      | inr other ↦
          ap (λ (l : List ℕ). l ++ filter test rest) (in_other_slot granule chunk t fronted other)
          ∙ front_in_slots granule chunk slots fronted sorted.1
          (elim (or_cases (t == slot_of chunk.start) (is_reserved slots (slot_of chunk.start)) reserved) [
            | inl here ↦ absurd (other (eqb-true t (slot_of chunk.start) here))
            | inr later ↦ later
          ])
    ]
  where
    test : ℕ → Bool
    test k = meets_front granule chunk k

    rest : List ℕ
    rest = flat_map (granules_of granule) slots

-- Where a chunk comes or grows, so that the fronts meet what they met and what its front meets, the
-- granules committed are those before and those missing.
joined : (b among meets new : Bool) → (meets ≡ true → among ≡ true) → (among ≡ true → ((b && among) || meets) ≡ true)
    → ((b && among) || (meets || new)) ≡ (among || new)
joined true true meets new f g = refl
joined false true meets new f g = ap (λ m. m || new) (g refl)
joined b false true new f g = let wrong = f refl in absurd (cc)
joined true false false new f g = refl
joined false false false new f g = refl

pub count_with_front : (pool : PoolState) (held : List Chunk) (slots : List ℕ) (chunk : Chunk) → IsSoundPool pool
    → IsPart chunk.start chunk.level → 1 ≤ chunk.front → chunk.front ≤ size_of chunk.level
    → IsStrictlyIncreasing slots → is_reserved slots (slot_of chunk.start) ≡ true
    → filter (has_committed pool) (flat_map (granules_of (granule_in pool)) slots) ≡ pool.committed
    → ((k : ℕ)
    → is_committed (granule_in pool) held k
    ≡ (is_committed (granule_in pool) pool.held k || meets_front (granule_in pool) chunk k))
    → length (committed_with pool.limits.policy pool.committed held slots)
    ≡ length pool.committed + granules_missing pool chunk
count_with_front pool held slots chunk sound placed some within rising reserved as_before adds =
    ap length
    (filter_agree (is_committed_now pool.limits.policy pool.committed held)
    (λ k. has_committed pool k || meets_front granule chunk k) agree numbers)
    ∙ count_or (has_committed pool) (meets_front granule chunk) numbers
    ∙ ap (λ (l : List ℕ). length l + length (filter missing (filter (meets_front granule chunk) numbers))) as_before
    ∙ ap (λ (l : List ℕ). length pool.committed + length (filter missing l))
    (front_in_slots granule chunk slots fronted (sorted_from_strictly_increasing slots rising) reserved)
  where
    granule : ℕ
    granule = granule_in pool

    numbers : List ℕ
    numbers = flat_map (granules_of granule) slots

    missing : ℕ → Bool
    missing k = not (has_committed pool k)

    fronted : IsFronted granule chunk
    fronted =
        record {
          whole = granules_make_nodes pool.limits.policy;
          some_granule = granule_some pool.limits.policy;
          placed = placed;
          some = some;
          within = within;
        }

    agree : (k : ℕ) → is_committed_now pool.limits.policy pool.committed held k
        ≡ (has_committed pool k || meets_front granule chunk k)
    agree k =
        ap (λ b. (keeps pool.limits.policy && has_committed pool k) || b) (adds k)
        ∙ joined (keeps pool.limits.policy) (has_committed pool k) (is_committed granule pool.held k)
        (meets_front granule chunk k)
        (λ h. committed_where_front pool k sound h) (λ h. committed_where_now pool k sound h)

-- The granules of the slots that are committed are those of the pool.
pub committed_in_slots : (pool : PoolState) → IsSoundPool pool
    → filter (has_committed pool) (flat_map (granules_of (granule_in pool)) pool.slots) ≡ pool.committed
committed_in_slots pool sound =
    filter_agree (has_committed pool) (is_committed_now pool.limits.policy pool.committed pool.held) (λ k.
    same_truth (has_committed pool k) (is_committed_now pool.limits.policy pool.committed pool.held k)
    (λ h. committed_where_now pool k sound h) (λ h. now_there k h))
    (flat_map (granules_of (granule_in pool)) pool.slots)
    ∙ sym sound.committed
  where
    among : (b among : Bool) → (b && among) ≡ true → among ≡ true
    among true true e = refl
    among true false e = e
    among false true e = refl
    among false false e = e

    now_there : (k : ℕ) → is_committed_now pool.limits.policy pool.committed pool.held k ≡ true
        → has_committed pool k ≡ true
    now_there k h =
        elim (or_cases (keeps pool.limits.policy && has_committed pool k) (is_committed (granule_in pool) pool.held k)
        h) [
          | inl kept ↦ among (keeps pool.limits.policy) (has_committed pool k) kept
          | inr front ↦ committed_where_front pool k sound front
        ]

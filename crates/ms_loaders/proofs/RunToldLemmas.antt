-- The run that an allocation tells: each granule that came lies in it, each of it is committed.
-- `System::allocate_with_run` uses these.
use Rattle.std.proofs.Common.{◌≡◌, ◌≤◌, ◌<◌, ℕ, ◌+◌, ◌-◌, ◌*◌, ◌/◌, Bool, true, false, not, ◌&&◌, List, [], ◌∷◌}
use Rattle.std.proofs.Common.{length, refl, sym, ap, ◌∙◌, subst, inl, inr, arith}
use Rattle.std.specs.Prelude.{◌==◌, nat_le, nat_lt, if◌then◌else◌}
use Rattle.std.specs.List.{list_any, filter, range_with_len}
use Rattle.std.proofs.lemmas.Nat.{le-div, div-add-mod'}
use Rattle.std.proofs.lemmas.Bool.{and_parts, and_from, or_parts, leb-true, ltb-true, le-leb, lt-ltb, not_from_false}
use Rattle.std.proofs.lemmas.Bool.{both_ways, cases_lt, false_from_ne_true, or_from}
use Rattle.std.proofs.Math.Nat.{add-mul, mul-mod_left}
use Rattle.std.proofs.lemmas.Bool.Decides.{nat_tests}
use Rattle.ms_base.specs.declared.span.Chunk.{Chunk}
use Rattle.ms_base.specs.Policy.{granule_of, keeps}
use Rattle.ms_base.specs.Front.{HasFront}
use Rattle.ms_base.specs.Interval.{meet}
use Rattle.ms_base.specs.Level.{size_of, highest_level}
use Rattle.ms_base.specs.Part.{IsPart}
use Rattle.ms_base.specs.Committed.{is_among, granules_meeting}
use Rattle.ms_base.specs.State.{PoolState}
use Rattle.ms_base.specs.PoolSteps.Pick.{granule_in, has_committed}
use Rattle.ms_base.specs.PoolSteps.Causes.{granules_missing}
use Rattle.ms_base.specs.Laws.{is_number}
use Rattle.ms_base.proofs.granules.PolicyLemmas.{IsGranule, granule_is_level, granule_some}
use Rattle.ms_base.proofs.granules.FreeGranuleLemmas.{bounds_meet, meeting_lies_in, meets_bounds}
use Rattle.ms_base.proofs.free.HalvesLemmas.{size_some}
use Rattle.ms_base.proofs.runs.ApartLemmas.{meet_turned}
use Rattle.ms_base.proofs.granules.GranuleLemmas.{below_from_product, in_range}
use Rattle.ms_base.proofs.granules.GranuleCountLemmas.{meets_front}
use Rattle.ms_base.proofs.granules.BetweenLemmas.{is_between, meets_between}
use Rattle.ms_loaders.specs.Committing.{is_in_run, first_past, run_of}
use Rattle.ms_loaders.proofs.CommitLemmas.{Commits, among_filtered, came_by_front, fronted, its_front, none_replaced}
use Rattle.ms_loaders.proofs.CommitLemmas.{its_part, was_not}

unlike_zero : (n : ℕ) → 1 ≤ n → (n == 0) ≡ false
unlike_zero n h = grind (arith, nat_tests)

not_zero : (n : ℕ) → (n == 0) ≡ false → 1 ≤ n
not_zero n e = grind (arith, nat_tests, e)

-- The granules of the run, one by one.
run_parts : (granule front start words came k : ℕ) → is_in_run (run_of granule front start words came) k ≡ true
    → (1 ≤ came) × (first_past granule start front ≤ k) × (k < (start + words - 1) / granule + 1)
run_parts granule front start words came k inside = go (came == 0) refl inside
  where
    first : ℕ
    first = first_past granule start front

    go : (b : Bool) → (came == 0) ≡ b
        → is_in_run (if b then record { first = 0; granules = 0; came = 0 }
        else record { first = first; granules = (start + words - 1) / granule + 1 - first; came = came }) k ≡ true
        → (1 ≤ came) × (first ≤ k) × (k < (start + words - 1) / granule + 1)
    go true e h = let both = and_parts (nat_le 0 k) (nat_lt k (0 + 0)) h in
        absurd (omega (arith, ltb-true k (0 + 0) both.1))
    go false e h =
        let both = and_parts (nat_le first k) (nat_lt k (first + ((start + words - 1) / granule + 1 - first))) h in
        let low = leb-true first k both.0 in
        let high = ltb-true k (first + ((start + words - 1) / granule + 1 - first)) both.1 in
        (not_zero came e, low, omega (arith, low, high))

make_run : (granule front start words came k : ℕ) → 1 ≤ came → first_past granule start front ≤ k
    → k < (start + words - 1) / granule + 1 → is_in_run (run_of granule front start words came) k ≡ true
make_run granule front start words came k some low high =
    let first = first_past granule start front in
    ap (λ b. is_in_run (if b then record { first = 0; granules = 0; came = 0 }
    else record { first = first; granules = (start + words - 1) / granule + 1 - first; came = came }) k)
    (unlike_zero came some)
    ∙ and_from (nat_le first k) (nat_lt k (first + ((start + words - 1) / granule + 1 - first))) (le-leb first k low)
    (lt-ltb k (first + ((start + words - 1) / granule + 1 - first)) (omega (arith, low, high)))

-- The front that a chunk replaces: none, or that of the chunk that starts there.
abbrev pub Over : List Chunk → Chunk → ℕ → Type 0
Over [] is front = front ≡ 0
Over (was ∷ []) is front = (was.start ≡ is.start) × (front ≡ was.front) × (1 ≤ was.front)
Over (was ∷ other ∷ more) is front = ⊥

past_none : (granule start front : ℕ) → front ≡ 0 → first_past granule start front ≡ start / granule
past_none granule start front e = ap (first_past granule start) e

past_some : (granule start front : ℕ) → 1 ≤ front → first_past granule start front ≡ (start + front - 1) / granule + 1
past_some granule start front h =
    ap (λ b. if b then start / granule else (start + front - 1) / granule + 1) (unlike_zero front h)

past_low : (granule front k : ℕ) (mid : List Chunk) (is : Chunk) → 1 ≤ granule → Over mid is front
    → first_past granule is.start front ≤ k → is.start / granule ≤ k
past_low granule front k [] is some over h = omega (arith, h, past_none granule is.start front over)
past_low granule front k (was ∷ []) is some over h =
    let low = le-div (is.start / granule) (is.start + front - 1) granule (omega (arith, some))
    (omega (arith, div-add-mod' is.start granule, over.1, over.2)) in
    omega (arith, h, low, past_some granule is.start front (omega (arith, over.1, over.2)))
past_low granule front k (was ∷ other ∷ more) is some over h = absurd over

above_from : (low high k : ℕ) → low ≤ k → (nat_le low k && nat_lt k high) ≡ false → high ≤ k
above_from low high k h e = grind (arith, nat_tests, e)

to_past : (granule front k : ℕ) (mid : List Chunk) (is : Chunk) → 1 ≤ granule → Over mid is front
    → is.start / granule ≤ k → list_any (λ (c : Chunk). meets_front granule c k) mid ≡ false
    → first_past granule is.start front ≤ k
to_past granule front k [] is some over h none = omega (arith, h, past_none granule is.start front over)
to_past granule front k (was ∷ []) is some over h none =
    let start : was.start / granule ≡ is.start / granule = ap (λ (n : ℕ). n / granule) over.0 in
    let ends : was.start + was.front - 1 ≡ is.start + front - 1 = omega (arith, over.0, over.1) in
    let last : (was.start + was.front - 1) / granule ≡ (is.start + front - 1) / granule = ap (λ (n : ℕ). n / granule) ends in
    let clear = (or_parts (meets_front granule was k) false none).0 in
    let high = above_from (was.start / granule) ((was.start + was.front - 1) / granule + 1) k (omega (arith, h, start))
    (sym (meets_between granule was.start was.front k some over.2) ∙ clear) in
    omega (arith, high, last, past_some granule is.start front (omega (arith, over.1, over.2)))
to_past granule front k (was ∷ other ∷ more) is some over h none = absurd over

some_there : (p : ℕ → Bool) (xs : List ℕ) → list_any p xs ≡ true → 1 ≤ length xs
some_there p [] e = absurd (cc)
some_there p (x ∷ xs) e = omega arith

module _ (pool : PoolState) (held : List Chunk) (slots committed : List ℕ) (elsewhere : ℕ) (mid : List Chunk)
    (is : Chunk) (front came : ℕ) (c : Commits pool held slots committed elsewhere mid is) (over : Over mid is front)
    (missing : came ≡ granules_missing pool is) where
  abbrev granule : ℕ
  granule = granule_in pool

  abbrev last : ℕ
  last = (is.start + is.front - 1) / granule + 1

  words : 1 ≤ is.front
  words = (its_front pool held slots committed elsewhere mid is c).some

  bounds : (k : ℕ) → meets_front granule is k ≡ true → (is.start / granule ≤ k) × (k < last)
  bounds k meets =
      let both = and_parts (nat_le (is.start / granule) k) (nat_lt k last)
      (sym (meets_between granule is.start is.front k (granule_some pool.limits.policy) words) ∙ meets) in
      (leb-true (is.start / granule) k both.0, ltb-true k last both.1)

  pub came_in : (k : ℕ) → is_among committed k ≡ true → has_committed pool k ≡ false
      → is_in_run (run_of granule front is.start is.front came) k ≡ true
  came_in k there none =
      let at = bounds k (came_by_front pool held slots committed elsewhere mid is c k there none) in
      let numbers = granules_meeting granule is.start is.front in
      let fresh : ℕ → Bool = λ n. not (has_committed pool n) in
      let some = some_there (is_number k) (filter fresh numbers) (among_filtered fresh numbers k
      ∙ and_from (not (has_committed pool k)) (list_any (is_number k) numbers)
      (not_from_false (has_committed pool k) none)
      (in_range (is.start / granule) (last - is.start / granule) k at.0 (omega (arith, at.0, at.1)))) in
      make_run granule front is.start is.front came k (omega (arith, missing, some))
      (to_past granule front k mid is (granule_some pool.limits.policy) over at.0
      (none_replaced pool held slots committed elsewhere mid is c k none)) at.1

  pub run_is_backed : (k : ℕ) → is_in_run (run_of granule front is.start is.front came) k ≡ true
      → is_among committed k ≡ true
  run_is_backed k inside =
      let parts = run_parts granule front is.start is.front came k inside in
      fronted pool held slots committed elsewhere mid is c k
      (meets_between granule is.start is.front k (granule_some pool.limits.policy) words
      ∙ is_between (is.start / granule) last k
      (past_low granule front k mid is (granule_some pool.limits.policy) over parts.1) parts.2)

-- A part and a granule that meet: one lies in the other.
module _ (granule j k : ℕ) (is : Chunk) (e : granule ≡ size_of j) (below : j ≤ highest_level)
    (part : IsPart is.start is.level)
    (meets : meet is.start (size_of is.level) (k * granule) granule ≡ true) where
  large_around : is.level ≤ j → (is.start ≤ k * granule) × (k * granule + granule ≤ is.start + size_of is.level)
  large_around h = subst
      (λ (g : ℕ). meet is.start (size_of is.level) (k * g) g ≡ true
      → (is.start ≤ k * g) × (k * g + g ≤ is.start + size_of is.level)) (sym e)
      (λ m. meeting_lies_in is.start is.level (k * size_of j) j part (below, mul-mod_left k (size_of j)) h m) meets

  small_within : j ≤ is.level → (k * granule ≤ is.start) × (is.start + size_of is.level ≤ k * granule + granule)
  small_within h = subst
      (λ (g : ℕ). meet is.start (size_of is.level) (k * g) g ≡ true
      → (k * g ≤ is.start) × (is.start + size_of is.level ≤ k * g + g)) (sym e)
      (λ m. meeting_lies_in (k * size_of j) j is.start is.level (below, mul-mod_left k (size_of j)) part h
      (meet_turned (k * size_of j) (size_of j) is.start (size_of is.level) ∙ m)) meets

above : (low high k : ℕ) → high ≤ k → (nat_le low k && nat_lt k high) ≡ false
above low high k h = grind (arith, nat_tests)

past_clear : (granule front k : ℕ) (mid : List Chunk) (is : Chunk) → 1 ≤ granule → Over mid is front
    → first_past granule is.start front ≤ k → list_any (λ (c : Chunk). meets_front granule c k) mid ≡ false
past_clear granule front k [] is some over h = refl
past_clear granule front k (was ∷ []) is some over h =
    let ends : was.start + was.front - 1 ≡ is.start + front - 1 = omega (arith, over.0, over.1) in
    let last : (was.start + was.front - 1) / granule ≡ (is.start + front - 1) / granule = ap (λ (n : ℕ). n / granule) ends in
    or_from (meets_front granule was k) false (meets_between granule was.start was.front k some over.2
    ∙ above (was.start / granule) ((was.start + was.front - 1) / granule + 1) k
    (omega (arith, h, last, past_some granule is.start front (omega (arith, over.1, over.2))))) refl
past_clear granule front k (was ∷ other ∷ more) is some over h = absurd over

-- A chunk within a granule lacks that one or none.
one_number : (granule start words k : ℕ) → 1 ≤ granule → start / granule ≤ k → k * granule ≤ start → 1 ≤ words
    → start + words ≤ k * granule + granule → granules_meeting granule start words ≡ k ∷ []
one_number granule start words k some low h few high =
    ap (λ (a : ℕ). range_with_len a ((start + words - 1) / granule + 1 - a)) first
    ∙ ap (λ (n : ℕ). range_with_len k (n + 1 - k)) last ∙ ap (range_with_len k) one
  where
    first : start / granule ≡ k
    first = omega (arith, low, le-div k start granule (omega (arith, some)) h)

    over : k ≤ (start + words - 1) / granule
    over = le-div k (start + words - 1) granule (omega (arith, some)) (omega (arith, h, few))

    under : (start + words - 1) / granule < k + 1
    under = below_from_product ((start + words - 1) / granule) (k + 1) granule
        (omega (arith, high, few, div-add-mod' (start + words - 1) granule, add-mul k 1 granule))

    last : (start + words - 1) / granule ≡ k
    last = omega (arith, over, under)

    one : k + 1 - k ≡ 1
    one = omega arith

none_lacks : (pool : PoolState) (k : ℕ) → has_committed pool k ≡ true
    → length (filter (λ n. not (has_committed pool n)) (k ∷ [])) ≡ 0
none_lacks pool k there = rw there refl

-- A chunk within a granule that came replaces no front there, so the granule was missing.
in_small : (pool : PoolState) (held : List Chunk) (slots committed : List ℕ) (elsewhere : ℕ) (mid : List Chunk)
    (is : Chunk) (front came k : ℕ) → Commits pool held slots committed elsewhere mid is → Over mid is front
    → came ≡ granules_missing pool is → 1 ≤ came → is.start / granule_in pool ≤ k → k * granule_in pool ≤ is.start
    → is.start + size_of is.level ≤ k * granule_in pool + granule_in pool
    → list_any (λ (c : Chunk). meets_front (granule_in pool) c k) mid ≡ false → has_committed pool k ≡ false
in_small pool held slots committed elsewhere [] is front came k c over missing some low h high none =
    false_from_ne_true (has_committed pool k) (λ there.
    let front_is = its_front pool held slots committed elsewhere [] is c in
    let numbers = one_number (granule_in pool) is.start is.front k (granule_some pool.limits.policy) low h front_is.some
    (omega (arith, high, front_is.within)) in
    omega (
      arith,
      some,
      missing,
      ap (λ l. length (filter (λ n. not (has_committed pool n)) l)) numbers,
      none_lacks pool k there,
    ))
in_small pool held slots committed elsewhere (was ∷ []) is front came k c over missing some low h high none =
    let clear = (or_parts (meets_front (granule_in pool) was k) false none).0 in
    absurd (both_ways (meets_front (granule_in pool) was k) clear
    (bounds_meet was.start was.front (k * granule_in pool) (granule_in pool)
    (omega (arith, over.0, high, size_some is.level)) (omega (arith, over.0, h, over.2))))
in_small pool held slots committed elsewhere (was ∷ other ∷ more) is front came k c over missing some low h high none =
    absurd over

-- Where a policy gives back, each granule of the run came.
pub run_came : (pool : PoolState) (held : List Chunk) (slots committed : List ℕ) (elsewhere : ℕ) (mid : List Chunk)
    (is : Chunk) (front came : ℕ) → Commits pool held slots committed elsewhere mid is → Over mid is front
    → came ≡ granules_missing pool is → keeps pool.limits.policy ≡ false → (k : ℕ)
    → is_in_run (run_of (granule_in pool) front is.start is.front came) k ≡ true → has_committed pool k ≡ false
run_came pool held slots committed elsewhere mid is front came c over missing reclaims k inside =
    elim (cases_lt level.level is.level) [
      | inl small ↦
          let at = small_within (granule_in pool) level.level k is level.is level.below part wide (omega (arith, small)) in
          in_small pool held slots committed elsewhere mid is front came k c over missing parts.0 low at.0 at.1 clear
      | inr large ↦
          let at = large_around (granule_in pool) level.level k is level.is level.below part wide (omega (arith, large)) in
          was_not pool held slots committed elsewhere mid is c reclaims k at.0 at.1 clear
    ]
  where
    level : IsGranule (granule_of pool.limits.policy)
    level = granule_is_level pool.limits.policy

    parts : (1 ≤ came) × (first_past (granule_in pool) is.start front ≤ k) × (k < (is.start + is.front - 1) / (granule_in pool) + 1)
    parts = run_parts (granule_in pool) front is.start is.front came k inside

    part : IsPart is.start is.level
    part = its_part pool held slots committed elsewhere mid is c

    its : HasFront pool.limits.policy is
    its = its_front pool held slots committed elsewhere mid is c

    low : is.start / (granule_in pool) ≤ k
    low = past_low (granule_in pool) front k mid is (granule_some pool.limits.policy) over parts.1

    clear : list_any (λ (one : Chunk). meets_front (granule_in pool) one k) mid ≡ false
    clear = past_clear (granule_in pool) front k mid is (granule_some pool.limits.policy) over parts.1

    wide : meet is.start (size_of is.level) (k * (granule_in pool)) (granule_in pool) ≡ true
    wide = let front_meets = meets_bounds is.start is.front (k * (granule_in pool)) (granule_in pool)
        (meets_between (granule_in pool) is.start is.front k (granule_some pool.limits.policy) its.some
        ∙ is_between (is.start / (granule_in pool)) ((is.start + is.front - 1) / (granule_in pool) + 1) k low parts.2) in
        bounds_meet is.start (size_of is.level) (k * (granule_in pool)) (granule_in pool) front_meets.0
        (omega (arith, front_meets.1, its.within))

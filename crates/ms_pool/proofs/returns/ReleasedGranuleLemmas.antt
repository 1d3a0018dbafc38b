-- The granules once a chunk is taken back: those of the free part that results go, where it has a
-- granule's words or more, and no others; under policy none all stay. The proof of `release` uses
-- them.
use Rattle.std.proofs.Common.{◌≡◌, ◌<◌, ◌≤◌, ℕ, ◌+◌, ◌*◌, ◌/◌, ◌%◌, Bool, true, false, not, ◌&&◌, ◌||◌, List, refl, sym}
use Rattle.std.proofs.Common.{ap, ap₂, subst, ◌∙◌, arith, le-leb}
use Rattle.std.specs.Prelude.{nat_le, nat_lt}
use Rattle.std.specs.List.{AllByRecursion}
use Rattle.std.specs.List.Sorted.{IsStrictlyIncreasing}
use Rattle.std.proofs.lemmas.Bool.Decides.{nat_tests}
use Rattle.std.proofs.lemmas.List.Elements.{recursion_from_All, All-weaker}
use Rattle.std.proofs.lemmas.List.Kept.{IsStrictlyIncreasing-filter}
use Rattle.ms_base.specs.declared.policy.Policy.{Policy}
use Rattle.ms_base.specs.declared.policy.Policy.TheVariants.{Balanced, Aggressive, None as Never}
use Rattle.ms_base.specs.declared.span.Chunk.{Chunk}
use Rattle.ms_base.specs.declared.span.Span.{Span}
use Rattle.ms_base.specs.Policy.{granule_of, slot_granules, keeps}
use Rattle.ms_base.specs.Front.{HasFront}
use Rattle.ms_base.specs.Interval.{meet}
use Rattle.ms_base.specs.Level.{size_of}
use Rattle.ms_base.specs.Part.{is_reserved}
use Rattle.ms_base.specs.Held.{AreHeld}
use Rattle.ms_base.specs.FreeParts.{IsFreePart}
use Rattle.ms_base.specs.Committed.{is_among, is_committed, is_committed_now, committed_with}
use Rattle.ms_base.proofs.granules.FreeGranuleLemmas.{committed_where_small}
use Rattle.ms_base.proofs.granules.PolicyLemmas.{granule_is_level}
use Rattle.ms_commit.specs.NumberSet.{is_in_range, without_range}
use Rattle.ms_commit.proofs.ModelLemmas.{committed_rise, granules_are_committed, is_among-committed}
use Rattle.ms_commit.proofs.SetLemmas.{is_among-without_range}
use Rattle.ms_pool.proofs.returns.ReleasedChunkLemmas.{is_there, without_chunk, committed_elsewhere, committed_still}

-- A chunk is taken back, and lies in a free part of what is left.
pub record IsTakenBack (policy : Policy) (slots : List ℕ) (held : List Chunk) (chunk : Chunk)
    (part : Span) : Type 0 where
  pub before : AreHeld policy slots held
  pub rest : AreHeld policy slots (without_chunk chunk held)
  pub free : IsFreePart (without_chunk chunk held) slots part
  pub from : part.start ≤ chunk.start
  pub upto : chunk.start + size_of chunk.level ≤ part.start + size_of part.level

-- What a granule that meets the part is; any other stays.
settled : (rest held large meets : Bool) → (meets ≡ true → rest ≡ not large) → (rest ≡ true → held ≡ true)
    → (meets ≡ false → rest ≡ held)
    → rest ≡ (held && not (large && meets))
settled rest true true true e f g = e refl
settled rest false true true e f g = e refl
settled rest true false true e f g = e refl
settled true false false true e f g = let wrong = f refl in absurd (cc)
settled false false false true e f g = refl
settled rest true true false e f g = g refl
settled rest false true false e f g = g refl
settled rest true false false e f g = g refl
settled rest false false false e f g = g refl

pub granule_once_back : (policy : Policy) (slots : List ℕ) (held : List Chunk) (chunk : Chunk) (part : Span)
    (number : ℕ) → IsTakenBack policy slots held chunk part
    → is_committed (granule_of policy) (without_chunk chunk held) number
    ≡ (is_committed (granule_of policy) held number
    && not (nat_le (granule_of policy) (size_of part.level) && meet part.start (size_of part.level)
    (number * granule_of policy) (granule_of policy)))
granule_once_back policy slots held chunk part number back =
    settled (is_committed granule (without_chunk chunk held) number) (is_committed granule held number)
    (nat_le granule (size_of part.level))
    (meet part.start (size_of part.level) (number * granule) granule)
    (λ meets. committed_where_small policy (without_chunk chunk held) slots part number (granule_is_level policy)
    back.rest back.free meets
    ∙ not_large (size_of part.level) granule)
    (committed_still granule number (λ one. not (is_there chunk one)) held)
    (λ apart. committed_elsewhere granule number chunk held fits
    (smaller part.start (size_of part.level) chunk.start (size_of chunk.level) (number * granule) granule back.from
    back.upto apart))
  where
    granule : ℕ
    granule = granule_of policy

    not_large : (s g : ℕ) → nat_lt s g ≡ not (nat_le g s)
    not_large s g = grind (arith, nat_tests)

    smaller : (p s c t b n : ℕ) → p ≤ c → c + t ≤ p + s → meet p s b n ≡ false → meet c t b n ≡ false
    smaller p s c t b n h k e = grind (arith, nat_tests)

    fits : AllByRecursion (λ one. one.front ≤ size_of one.level) held
    fits = recursion_from_All (λ one. one.front ≤ size_of one.level) held
        (All-weaker (HasFront policy) (λ one. one.front ≤ size_of one.level) (λ one front. front.within) held
        back.before.fronts)

-- The granules of a part of a granule's words or more are a range.
abbrev pub first_of : Policy → Span → ℕ
first_of policy part = part.start / granule_of policy

abbrev pub count_of : Policy → Span → ℕ
count_of policy part = size_of part.level / granule_of policy

whole_range : (policy : Policy) (start size number : ℕ) → start % granule_of policy ≡ 0 → size % granule_of policy ≡ 0
    → is_in_range (start / granule_of policy) (size / granule_of policy) number
    ≡ meet start size (number * granule_of policy) (granule_of policy)
whole_range Balanced start size number e f =
    same (start / 8192) (size / 8192) number start size (omega (arith, e)) (omega (arith, f))
  where
    same : (a n k s t : ℕ) → s ≡ a * 8192 → t ≡ n * 8192 → is_in_range a n k ≡ meet s t (k * 8192) 8192
    same a n k s t e f = grind (arith, nat_tests)
whole_range Aggressive start size number e f =
    same (start / 2048) (size / 2048) number start size (omega (arith, e)) (omega (arith, f))
  where
    same : (a n k s t : ℕ) → s ≡ a * 2048 → t ≡ n * 2048 → is_in_range a n k ≡ meet s t (k * 2048) 2048
    same a n k s t e f = grind (arith, nat_tests)
whole_range Never start size number e f =
    same (start / 8192) (size / 8192) number start size (omega (arith, e)) (omega (arith, f))
  where
    same : (a n k s t : ℕ) → s ≡ a * 8192 → t ≡ n * 8192 → is_in_range a n k ≡ meet s t (k * 8192) 8192
    same a n k s t e f = grind (arith, nat_tests)

-- What is committed where the policy doesn't keep.
pub now_without : (policy : Policy) (before : List ℕ) (held : List Chunk) (number : ℕ) → keeps policy ≡ false
    → is_committed_now policy before held number ≡ is_committed (granule_of policy) held number
now_without policy before held number e =
    ap (λ (b : Bool). (b && is_among before number) || is_committed (granule_of policy) held number) e

pub uncommitted_once_back : (policy : Policy) (before slots : List ℕ) (held : List Chunk) (chunk : Chunk) (part : Span)
    → IsStrictlyIncreasing slots
    → before ≡ committed_with policy before held slots → keeps policy ≡ false → IsTakenBack policy slots held chunk part
    → granule_of policy ≤ size_of part.level → part.start % granule_of policy ≡ 0
    → size_of part.level % granule_of policy ≡ 0
    → without_range before (first_of policy part) (count_of policy part)
    ≡ committed_with policy before (without_chunk chunk held) slots
uncommitted_once_back policy before slots held chunk part rise settles leaves back large e f =
    granules_are_committed policy before (without_chunk chunk held) slots (without_range before first count) rise
    (IsStrictlyIncreasing-filter (λ k. not (is_in_range first count k)) before before_rise)
    (λ k. is_among-without_range before first count k
    ∙ out (is_in_range first count k) (is_among before k) (is_committed granule held k) (in_slots k)
    (is_committed_now policy before (without_chunk chunk held) k)
    (ap (λ (l : List ℕ). is_among l k) settles ∙ is_among-committed policy before held slots k
    ∙ ap (λ (b : Bool). b && in_slots k) (now_without policy before held k leaves))
    (now_without policy before (without_chunk chunk held) k leaves
    ∙ granule_once_back policy slots held chunk part k back
    ∙ ap₂ (λ (a b : Bool). is_committed granule held k && not (a && b)) (le-leb granule (size_of part.level) large)
    (sym (whole_range policy part.start (size_of part.level) k e f))))
  where
    granule : ℕ
    granule = granule_of policy

    first : ℕ
    first = first_of policy part

    count : ℕ
    count = count_of policy part

    in_slots : ℕ → Bool
    in_slots k = is_reserved slots (k / slot_granules granule)

    before_rise : IsStrictlyIncreasing before
    before_rise = subst IsStrictlyIncreasing (sym settles) (committed_rise policy before held slots rise)

    out : (ranged among held inside rest : Bool) → among ≡ (held && inside) → rest ≡ (held && not (true && ranged))
        → (not ranged && among) ≡ (rest && inside)
    out ranged among held inside rest e f = rw (e, f) (all ranged held inside)
      where
        all : (ranged held inside : Bool)
            → (not ranged && (held && inside)) ≡ ((held && not (true && ranged)) && inside)
        all true true inside = refl
        all true false inside = refl
        all false true inside = refl
        all false false inside = refl

pub unchanged_once_back : (policy : Policy) (before slots : List ℕ) (held : List Chunk) (chunk : Chunk) (part : Span)
    → IsStrictlyIncreasing slots
    → before ≡ committed_with policy before held slots → keeps policy ≡ false → IsTakenBack policy slots held chunk part
    → size_of part.level < granule_of policy
    → before ≡ committed_with policy before (without_chunk chunk held) slots
unchanged_once_back policy before slots held chunk part rise settles leaves back small =
    granules_are_committed policy before (without_chunk chunk held) slots before rise before_rise
    (λ k. ap (λ (l : List ℕ). is_among l k) settles ∙ is_among-committed policy before held slots k
    ∙ ap (λ (b : Bool). b && in_slots k)
    (now_without policy before held k leaves
    ∙ still (is_committed granule held k) (meet part.start (size_of part.level) (k * granule) granule)
    ∙ ap (λ (b : Bool). is_committed granule held k && not
    (b && meet part.start (size_of part.level) (k * granule) granule))
    (sym (not_large (size_of part.level) granule small))
    ∙ sym (now_without policy before (without_chunk chunk held) k leaves
    ∙ granule_once_back policy slots held chunk part k back)))
  where
    granule : ℕ
    granule = granule_of policy

    in_slots : ℕ → Bool
    in_slots k = is_reserved slots (k / slot_granules granule)

    before_rise : IsStrictlyIncreasing before
    before_rise = subst IsStrictlyIncreasing (sym settles) (committed_rise policy before held slots rise)

    not_large : (s g : ℕ) → s < g → nat_le g s ≡ false
    not_large s g h = grind (arith, nat_tests)

    still : (held meets : Bool) → held ≡ (held && not (false && meets))
    still true meets = refl
    still false meets = refl

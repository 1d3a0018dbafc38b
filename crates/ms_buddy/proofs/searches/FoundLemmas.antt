-- The lowest free leaf of a level is the one with the lowest bit. For finding free leaves.
use Rattle.std.proofs.Common.{◌≡◌, ◌<◌, ◌≤◌, ℕ, ◌+◌, ◌-◌, ◌*◌, ◌/◌, ◌^◌, Bool, true, false, cond, ◌&&◌, List, [], ◌∷◌, ◌++◌}
use Rattle.std.proofs.Common.{Some, None, refl, sym, ap, subst, ◌∙◌, inl, inr, arith, eqb-true}
use Rattle.std.specs.Prelude.{◌==◌, nat_le}
use Rattle.std.specs.List.{AllByRecursion, find}
use Rattle.std.proofs.lemmas.Bool.{cases_lt}
use Rattle.std.proofs.lemmas.Bool.Decides.{nat_tests}
use Rattle.std.proofs.Math.Nat.{mul-le-mul_right}
use Rattle.ms_base.specs.declared.span.Span.{Span}
use Rattle.ms_base.specs.Level.{size_of, highest_level}
use Rattle.ms_buddy.specs.Tree.{Node}
use Rattle.ms_buddy.specs.Tree.{Free, Lent, Split}
use Rattle.ms_buddy.specs.Counts.{count_of_number, number_of, one_at}
use Rattle.ms_buddy.specs.FreeBits.{AreFreeBits, IsNextSet, bit_of}
use Rattle.ms_buddy.specs.Leaves.{is_of, is_of_from}
use Rattle.ms_buddy.specs.Tree.{IsTree, free_in}
use Rattle.ms_buddy.proofs.TreeHalvesLemmas.{size_of-some}
use Rattle.ms_buddy.proofs.WalkLemmas.{LiesIn, all_joined, all_weaker, find-none, free_lies_in}
use Rattle.ms_buddy.proofs.bits.NumberLemmas.{first_is_low, first_is_past, first_in_row, level_of_row, number_below, number_words}
use Rattle.ms_buddy.proofs.bits.NumberLemmas.{same_number}
use Rattle.ms_buddy.proofs.counts.CountLemmas.{number-cons, number-none}
use Rattle.ms_buddy.proofs.bits.FreeNumberLemmas.{HasPart, IsRootSpan, all_both, free_spans, has_part, root_part}

-- The parts stand in order of address.
abbrev pub AreRising : List Span → Type 0
AreRising [] = Unit {0}
AreRising (part ∷ parts) = AllByRecursion (λ later. part.start < later.start) parts × AreRising parts

rising_joined : (middle : ℕ) (xs ys : List Span) → AllByRecursion (λ part. part.start < middle) xs
    → AllByRecursion (λ part. middle ≤ part.start) ys → AreRising xs → AreRising ys → AreRising (xs ++ ys)
rising_joined middle [] ys below above a b = b
rising_joined middle (x ∷ xs) ys below above a b = (
  all_joined (λ later. x.start < later.start) xs ys a.0
      (all_weaker (λ part. middle ≤ part.start) (λ later. x.start < later.start) (λ later h. omega (arith, h, below.0)) ys
      above),
  rising_joined middle xs ys below.1 above a.1 b,
)

pub free_rising : (level start : ℕ) (node : Node) → IsTree level node → AreRising (free_in level start node)
free_rising level start Free tree = (tt, tt)
free_rising level start (Lent owner front) tree = tt
free_rising level start (Split lower upper) tree =
    rising_joined (start + size_of (level + 1)) (free_in (level + 1) start lower)
    (free_in (level + 1) (start + size_of (level + 1)) upper)
    (all_weaker (LiesIn start (start + size_of (level + 1))) (λ part. part.start < start + size_of (level + 1))
    (λ part lies. omega (arith, lies.to, size_of-some part.level)) (free_in (level + 1) start lower)
    (free_lies_in (level + 1) start lower tree.2))
    (all_weaker (LiesIn (start + size_of (level + 1)) (start + size_of (level + 1) + size_of (level + 1)))
    (λ part. start + size_of (level + 1) ≤ part.start) (λ part lies. lies.from)
    (free_in (level + 1) (start + size_of (level + 1)) upper)
    (free_lies_in (level + 1) (start + size_of (level + 1)) upper tree.3))
    (free_rising (level + 1) start lower tree.2)
    (free_rising (level + 1) (start + size_of (level + 1)) upper tree.3)

-- Each part of a list has its number in it.
each_counted : (parts : List Span) → AllByRecursion (λ part. 0 < count_of_number (number_of part) parts) parts
each_counted [] = tt
each_counted (part ∷ parts) = (
  omega (arith, number-cons (number_of part) part parts, own (number_of part)),
  all_weaker (λ other. 0 < count_of_number (number_of other) parts)
      (λ other. 0 < count_of_number (number_of other) (part ∷ parts))
      (λ other h. omega (arith, h, number-cons (number_of other) part parts)) parts (each_counted parts),
)
  where
    own : (n : ℕ) → one_at n n ≡ 1
    own n = grind (arith, nat_tests)

-- The parts are one.
pub alike : (a b : Span) → a.start ≡ b.start → a.level ≡ b.level → a ≡ b
alike a b e f = rw (e, f) refl

-- The first part that passes is the one that starts lowest of those that do.
first_found : (test : Span → Bool) (part : Span) (parts : List Span) → IsRootSpan part → test part ≡ true
    → AreRising parts → AllByRecursion IsRootSpan parts
    → AllByRecursion (λ other. test other ≡ true → part.start ≤ other.start) parts
    → 0 < count_of_number (number_of part) parts → find test parts ≡ Some part
first_found test part [] of_root passes rising of_roots least some = absurd (omega (arith, some, number-none (number_of part)))
first_found test part (first ∷ parts) of_root passes rising of_roots least some = elim (test first) as (λ b.
    test first ≡ b → cond b (Some first) (find test parts) ≡ Some part) [
      | true ↦ λ h. by_number (number_of first == number_of part) refl (least.0 h)
      | false ↦ λ h. first_found test part parts of_root passes rising.1 of_roots.1 least.1
          (later (not_first (number_of first == number_of part) refl h))
    ] refl
  where
    same : number_of first ≡ number_of part → first ≡ part
    same e = let both = same_number first part of_roots.0 of_root e in alike first part both.1 both.0

    later : (number_of first == number_of part) ≡ false → 0 < count_of_number (number_of part) parts
    later e =
        omega (arith, some, number-cons (number_of part) first parts, ap (λ (b : Bool). one_if b) e)
      where
        one_if : Bool → ℕ
        one_if b = cond b 1 0

    has_later : 0 < count_of_number (number_of part) parts
        → HasPart (number_of part) (λ other. (first.start < other.start) × IsRootSpan other)
    has_later h =
        has_part (number_of part) (λ other. (first.start < other.start) × IsRootSpan other) parts
        (all_both (λ other. first.start < other.start) IsRootSpan parts rising.0 of_roots.1) h

    not_below : HasPart (number_of part) (λ other. (first.start < other.start) × IsRootSpan other)
        → part.start ≤ first.start → ⊥
    not_below has h =
        omega (arith, has.holds.0, h, (same_number has.part part has.holds.1 of_root has.is).1)

    by_number : (b : Bool) → (number_of first == number_of part) ≡ b → part.start ≤ first.start → Some first ≡ Some part
    by_number true e h = ap Some (same (eqb-true (number_of first) (number_of part) e))
    by_number false e h = absurd (not_below (has_later (later e)) h)

    contrary : (b : Bool) → b ≡ true → b ≡ false → ⊥
    contrary b e f = absurd (cc)

    not_first : (b : Bool) → (number_of first == number_of part) ≡ b → test first ≡ false
        → (number_of first == number_of part) ≡ false
    not_first true e h =
        absurd (contrary (test part) passes (sym (ap test (same (eqb-true (number_of first) (number_of part) e))) ∙ h))
    not_first false e h = e

of_from : (level from : ℕ) (part : Span) → is_of_from level from part ≡ true → (part.level ≡ level) × (from ≤ part.start)
of_from level from part e = split part.level level from part.start e
  where
    split : (a b c d : ℕ) → ((a == b) && nat_le c d) ≡ true → (a ≡ b) × (c ≤ d)
    split a b c d e = (grind (arith, nat_tests), grind (arith, nat_tests))

-- The number of a free leaf that counts is not below the lowest bit's.
numbered : (node : Node) (words : List ℕ) → IsTree 0 node → AreFreeBits words (free_in 0 0 node)
    → AllByRecursion (λ part. IsRootSpan part × (0 < bit_of words (number_of part))) (free_in 0 0 node)
numbered node words tree are =
    all_both IsRootSpan (λ part. 0 < bit_of words (number_of part)) (free_in 0 0 node)
    (free_spans 0 0 node tree root_part)
    (all_weaker (λ part. 0 < count_of_number (number_of part) (free_in 0 0 node))
    (λ part. 0 < bit_of words (number_of part)) (λ part h. omega (arith, h, are (number_of part))) (free_in 0 0 node)
    (each_counted (free_in 0 0 node)))

-- The number of the first part of a level that starts at an offset or past it.
abbrev pub first_from : ℕ → ℕ → ℕ
first_from level from = (524288 + from + (size_of level - 1)) / size_of level

-- The numbers of parts of a level.
not_before : (level from : ℕ) (part : Span) → IsRootSpan part → part.level ≡ level → from ≤ part.start
    → first_from level from ≤ number_of part
not_before level from part of_root e h =
    subst (λ (l : ℕ). first_from l from ≤ number_of part) e (first_is_low part.level from part.start of_root h)

not_before_start : (level from : ℕ) (part : Span) → IsRootSpan part → part.level ≡ level
    → first_from level from ≤ number_of part → from ≤ part.start
not_before_start level from part of_root e h =
    first_is_past part.level from part.start of_root (subst (λ (l : ℕ). first_from l from ≤ number_of part) (sym e) h)

words_of_number : (level : ℕ) (part : Span) → IsRootSpan part → part.level ≡ level
    → number_of part * size_of level ≡ 524288 + part.start
words_of_number level part of_root e =
    subst (λ (l : ℕ). number_of part * size_of l ≡ 524288 + part.start) e
    (number_words part.level part.start of_root)

in_row : (level : ℕ) (part : Span) → IsRootSpan part → part.level ≡ level → number_of part < 2 * 2 ^ level
in_row level part of_root e =
    subst (λ (l : ℕ). number_of part < 2 * 2 ^ l) e (number_below part.level part.start of_root)

-- Each free leaf is a part, and its bit is set.
abbrev IsNumbered : List ℕ → Span → Type 0
IsNumbered words part = IsRootSpan part × (0 < bit_of words (number_of part))

-- A free leaf of the level that counts is not below one with the lowest number.
not_lower : (words : List ℕ) (level from number : ℕ) (part other : Span) → IsRootSpan part → part.level ≡ level
    → number_of part ≡ number → IsNextSet words (first_from level from) (2 * 2 ^ level) number
    → IsNumbered words other → is_of_from level from other ≡ true → part.start ≤ other.start
not_lower words level from number part other of_root e is next numbered passes =
    let of = of_from level from other passes in
    elim (cases_lt (number_of other) number) [
      | inl below ↦ absurd (omega (
        arith,
        numbered.1,
        next.below (number_of other) (not_before level from other numbered.0 of.0 of.1) below,
      ))
      | inr past ↦ omega (
        arith,
        mul-le-mul_right (size_of level) past,
        words_of_number level other numbered.0 of.0,
        words_of_number level part of_root e,
        ap (λ (n : ℕ). n * size_of level) is,
      )
    ]

-- The part of the lowest number of a level is the first free leaf that counts.
pub found_lowest : (node : Node) (words : List ℕ) (level from number : ℕ) (part : Span) → IsTree 0 node
    → AreFreeBits words (free_in 0 0 node) → level ≤ highest_level
    → IsNextSet words (first_from level from) (2 * 2 ^ level) number → part.level ≡ level
    → 524288 + part.start ≡ number * size_of level → Some part ≡ find (is_of_from level from) (free_in 0 0 node)
found_lowest node words level from number part tree are low next of_level starts =
    sym (first_found (is_of_from level from) part (free_in 0 0 node) of_root passes (free_rising 0 0 node tree)
    (all_weaker (IsNumbered words) IsRootSpan (λ other h. h.0) (free_in 0 0 node) (numbered node words tree are))
    (all_weaker (IsNumbered words) (λ other. is_of_from level from other ≡ true → part.start ≤ other.start)
    (λ other h. not_lower words level from number part other of_root of_level is next h) (free_in 0 0 node)
    (numbered node words tree are))
    (omega (arith, are number, next.set, ap (λ (n : ℕ). count_of_number n (free_in 0 0 node)) is)))
  where
    has : HasPart number IsRootSpan
    has = has_part number IsRootSpan (free_in 0 0 node)
        (all_weaker (IsNumbered words) IsRootSpan (λ other h. h.0) (free_in 0 0 node) (numbered node words tree are))
        (omega (arith, are number, next.set))

    level_is : has.part.level ≡ level
    level_is = level_of_row has.part.level has.part.start level has.holds
        (omega (arith, has.is, next.low, first_in_row level from low)) (omega (arith, has.is, next.high))

    same : has.part ≡ part
    same = alike has.part part (omega (
      arith,
      words_of_number level has.part has.holds level_is,
      starts,
      ap (λ (n : ℕ). n * size_of level) has.is,
    )) (level_is ∙ sym of_level)

    of_root : IsRootSpan part
    of_root = subst IsRootSpan same has.holds

    is : number_of part ≡ number
    is = ap number_of (sym same) ∙ has.is

    passes : is_of_from level from part ≡ true
    passes = test part.level level from part.start of_level
        (not_before_start level from part of_root of_level (omega (arith, is, next.low)))
      where
        test : (a b c d : ℕ) → a ≡ b → c ≤ d → ((a == b) && nat_le c d) ≡ true
        test a b c d e h = grind (arith, nat_tests)

-- Where no bit of the level is set from the first number that counts on, no free leaf counts.
pub found_none : (node : Node) (words : List ℕ) (level from : ℕ) → IsTree 0 node
    → AreFreeBits words (free_in 0 0 node)
    → ((number : ℕ) → first_from level from ≤ number → number < 2 * 2 ^ level → bit_of words number ≡ 0)
    → None ≡ find (is_of_from level from) (free_in 0 0 node)
found_none node words level from tree are none =
    sym (find-none (is_of_from level from) (free_in 0 0 node)
    (all_weaker (IsNumbered words) (λ part. is_of_from level from part ≡ false)
    (λ part h. by_test part h (is_of_from level from part) refl) (free_in 0 0 node) (numbered node words tree are)))
  where
    by_test : (part : Span) → IsNumbered words part → (b : Bool) → is_of_from level from part ≡ b
        → is_of_from level from part ≡ false
    by_test part h true e =
        let of = of_from level from part e in
        absurd (omega (
          arith,
          h.1,
          none (number_of part) (not_before level from part h.0 of.0 of.1) (in_row level part h.0 of.0),
        ))
    by_test part h false e = e

-- No part of a root starts past it.
pub found_past : (node : Node) (level from : ℕ) → IsTree 0 node → 524288 ≤ from
    → None ≡ find (is_of_from level from) (free_in 0 0 node)
found_past node level from tree h =
    sym (find-none (is_of_from level from) (free_in 0 0 node)
    (all_weaker (LiesIn 0 (0 + size_of 0)) (λ part. is_of_from level from part ≡ false)
    (λ part lies. before part.level level from part.start (omega (arith, lies.to, size_of-some part.level, h)))
    (free_in 0 0 node) (free_lies_in 0 0 node tree)))
  where
    before : (a b c d : ℕ) → d < c → ((a == b) && nat_le c d) ≡ false
    before a b c d h = grind (arith, nat_tests)

-- From offset 0 on every leaf of the level counts.
pub find-from_start : (level : ℕ) (parts : List Span) → find (is_of_from level 0) parts ≡ find (is_of level) parts
find-from_start level [] = refl
find-from_start level (part ∷ parts) =
    ap (λ b. cond b (Some part) (find (is_of_from level 0) parts)) (any_start (part.level == level) part.start)
    ∙ ap (λ o. cond (part.level == level) (Some part) o) (find-from_start level parts)
  where
    any_start : (c : Bool) (a : ℕ) → (c && nat_le 0 a) ≡ c
    any_start c a = grind (arith, nat_tests)

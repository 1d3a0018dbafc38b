-- How many free leaves of each level there are, and of each number, as one is parted, and as halves
-- merge. The walks that change a tree use these.
use Rattle.std.proofs.Common.{◌≡◌, ◌<◌, ◌≤◌, ℕ, suc, ◌+◌, ◌-◌, true, false, cond, ◌&&◌, ◌||◌, List, [], ◌∷◌, ◌++◌}
use Rattle.std.proofs.Common.{refl, sym, ap, subst, ◌∙◌, arith}
use Rattle.std.specs.Prelude.{◌==◌, nat_lt, IsTrue}
use Rattle.std.proofs.lemmas.List.Sums.{sum_by-append}
use Rattle.std.proofs.lemmas.Bool.Decides.{nat_tests}
use Rattle.ms_base.specs.declared.span.Span.{Span}
use Rattle.ms_base.specs.Level.{size_of, highest_level}
use Rattle.ms_buddy.specs.Tree.{Node}
use Rattle.ms_buddy.specs.Tree.{Free, Lent}
use Rattle.ms_buddy.specs.Counts.{IsParted, beside, count_at_level, count_of_number, follower_of, halves_beside}
use Rattle.ms_buddy.specs.Counts.{holder_of, number_of, one_at, one_between}
use Rattle.ms_buddy.specs.Leaves.{is_lent, span_at}
use Rattle.ms_buddy.specs.Tree.{IsRootPart, free_in, free_in_halves, lent_in}
use Rattle.ms_buddy.proofs.TreeHalvesLemmas.{holder_is, size_of-some}

-- Counts of no part, of one, and of some after others.
pub count-none : (level : ℕ) → count_at_level level [] ≡ 0
unfolding count_at_level
count-none level = refl

pub count-one : (level : ℕ) (part : Span) → count_at_level level (part ∷ []) ≡ one_at part.level level
unfolding count_at_level
count-one level part = omega arith

pub count-append : (level : ℕ) (xs ys : List Span)
    → count_at_level level (xs ++ ys) ≡ count_at_level level xs + count_at_level level ys
unfolding count_at_level
count-append level xs ys = sum_by-append (λ (part : Span). cond (part.level == level) 1 0) xs ys

pub number-none : (number : ℕ) → count_of_number number [] ≡ 0
unfolding count_of_number
number-none number = refl

pub number-one : (number : ℕ) (part : Span) → count_of_number number (part ∷ []) ≡ one_at (number_of part) number
unfolding count_of_number
number-one number part = omega arith

pub number-append : (number : ℕ) (xs ys : List Span)
    → count_of_number number (xs ++ ys) ≡ count_of_number number xs + count_of_number number ys
unfolding count_of_number
number-append number xs ys = sum_by-append (λ (part : Span). cond (number_of part == number) 1 0) xs ys

pub number-cons : (number : ℕ) (part : Span) (parts : List Span)
    → count_of_number number (part ∷ parts) ≡ one_at (number_of part) number + count_of_number number parts
number-cons number part parts =
    omega (arith, number-append number (part ∷ []) parts, number-one number part)

-- The halves beside the way to a part: none to the part itself, and one more for each split.
below_test : (a b : ℕ) → a < b → nat_lt a b ≡ true
below_test a b h = grind (arith, nat_tests)

past_test : (a b : ℕ) → b ≤ a → nat_lt a b ≡ false
past_test a b h = grind (arith, nat_tests)

pub none_beside : (times level start at : ℕ) → times ≡ 0 → halves_beside times level start at ≡ []
unfolding halves_beside
none_beside times level start at e = ap (λ (n : ℕ). halves_beside n level start at) e

pub upper_beside : (times rest level start at : ℕ) → times ≡ suc rest → at < start + size_of (level + 1)
    → halves_beside times level start at
    ≡ span_at (start + size_of (level + 1)) (level + 1) ∷ halves_beside rest (level + 1) start at
unfolding halves_beside
upper_beside times rest level start at e h =
    ap (λ (n : ℕ). halves_beside n level start at) e
    ∙ rw (below_test at (start + size_of (level + 1)) h) refl

pub lower_beside : (times rest level start at : ℕ) → times ≡ suc rest → start + size_of (level + 1) ≤ at
    → halves_beside times level start at
    ≡ span_at start (level + 1) ∷ halves_beside rest (level + 1) (start + size_of (level + 1)) at
unfolding halves_beside
lower_beside times rest level start at e h =
    ap (λ (n : ℕ). halves_beside n level start at) e
    ∙ rw (past_test at (start + size_of (level + 1)) h) refl

-- A leaf of the lower half is parted, or one of the upper half.
lower_parted : (before after rest : List Span) (leaf part : Span) → IsParted before leaf part after
    → IsParted (before ++ rest) leaf part (after ++ rest)
lower_parted before after rest leaf part parted = record {
  low = parted.low;
  order = parted.order;
  counts = λ other. omega (
    arith,
    parted.counts other,
    count-append other before rest,
    count-append other after rest,
  );
  numbered = λ number. omega (
    arith,
    parted.numbered number,
    number-append number before rest,
    number-append number after rest,
  );
}

upper_parted : (before after rest : List Span) (leaf part : Span) → IsParted before leaf part after
    → IsParted (rest ++ before) leaf part (rest ++ after)
upper_parted before after rest leaf part parted = record {
  low = parted.low;
  order = parted.order;
  counts = λ other. omega (
    arith,
    parted.counts other,
    count-append other rest before,
    count-append other rest after,
  );
  numbered = λ number. omega (
    arith,
    parted.numbered number,
    number-append number rest before,
    number-append number rest after,
  );
}

-- The same of the halves of a part.
pub lower_parted_at : (level start : ℕ) (was is upper : Node) (leaf part : Span)
    → IsParted (free_in (level + 1) start was) leaf part (free_in (level + 1) start is)
    → IsParted (free_in_halves level start was upper) leaf part (free_in_halves level start is upper)
lower_parted_at level start was is upper leaf part parted =
    lower_parted (free_in (level + 1) start was) (free_in (level + 1) start is)
    (free_in (level + 1) (start + size_of (level + 1)) upper) leaf part parted

pub upper_parted_at : (level start half : ℕ) (lower was is : Node) (leaf part : Span)
    → half ≡ size_of (level + 1)
    → IsParted (free_in (level + 1) (start + half) was) leaf part (free_in (level + 1) (start + half) is)
    → IsParted (free_in_halves level start lower was) leaf part (free_in_halves level start lower is)
upper_parted_at level start half lower was is leaf part size parted =
    upper_parted (free_in (level + 1) (start + size_of (level + 1)) was)
    (free_in (level + 1) (start + size_of (level + 1)) is) (free_in (level + 1) start lower) leaf part
    (subst (λ (n : ℕ). IsParted (free_in (level + 1) (start + n) was) leaf part (free_in (level + 1) (start + n) is))
    size parted)

-- A free leaf is lent whole.
none_between : (level other : ℕ) → one_between level (level + 1) other ≡ 0
none_between level other = grind (arith, nat_tests)

pub whole_parted : (leaf part : Span) → leaf.level ≤ highest_level → part.level ≡ leaf.level
    → IsParted (leaf ∷ []) leaf part []
whole_parted leaf part low e = record {
  low = omega (arith, low, e);
  order = omega (arith, e);
  counts = λ other. omega (
    arith,
    count-none other,
    count-one other leaf,
    ap (λ (n : ℕ). one_between leaf.level (n + 1) other) e,
    none_between leaf.level other,
  );
  numbered = λ number. omega (
    arith,
    number-none number,
    ap (count_of_number number)
        (none_beside (part.level - leaf.level) leaf.level leaf.start part.start (omega (arith, e))),
  );
}

-- A lent leaf becomes free.
pub leaf_parted : (part : Span) (level start owner front : ℕ) (node : Node) → node ≡ Lent owner front
    → IsRootPart level start → IsTrue (is_lent (lent_in level start node) part)
    → IsParted (span_at start level ∷ []) (holder_of level part) part (free_in level start node)
leaf_parted part level start owner front node e of_root lent =
    subst (λ (x : Node). IsParted (span_at start level ∷ []) (holder_of level part) part (free_in level start x)) (sym e)
    (subst (λ (leaf : Span). IsParted (span_at start level ∷ []) leaf part []) (sym (held both.0))
    (whole_parted (span_at start level) part of_root.level_fits (sym both.1)))
  where
    same : (a b c d : ℕ) → (((a == b) && (c == d)) || false) ≡ true → (a ≡ b) × (c ≡ d)
    same a b c d e = (grind (arith, nat_tests), grind (arith, nat_tests))

    both : (start ≡ part.start) × (level ≡ part.level)
    both = same start part.start level part.level
        (subst (λ (x : Node). IsTrue (is_lent (lent_in level start x) part)) e lent)

    held : start ≡ part.start → holder_of level part ≡ span_at start level
    held e = holder_is level start part of_root (omega (arith, e)) (omega (arith, e, size_of-some level))

-- A leader becomes its parent, and the free upper half is gone.
pub leader_parted : (part : Span) (level start owner front : ℕ) (lower upper : Node)
    → level < highest_level → lower ≡ Lent owner front → upper ≡ Free → part.level ≡ level + 1 → part.start ≡ start
    → IsParted (free_in_halves level start lower upper) (follower_of part) (follower_of part) []
leader_parted part level start owner front lower upper low e f child here =
    subst (λ (x : Node). IsParted (free_in_halves level start x upper) (follower_of part) (follower_of part) [])
    (sym e)
    (subst (λ (y : Node). IsParted (free_in_halves level start (Lent owner front) y) (follower_of part)
    (follower_of part) []) (sym f)
    (subst (λ (free : Span). IsParted (free ∷ []) (follower_of part) (follower_of part) []) follower
    (whole_parted (follower_of part) (follower_of part) (omega (arith, low, child)) refl)))
  where
    follower : follower_of part ≡ span_at (start + size_of (level + 1)) (level + 1)
    follower = rw (here, child) refl

-- One more of the level below it, and those between there and the lent one.
first_between : (level lent other : ℕ) → level < lent
    → one_between level (lent + 1) other ≡ one_at (level + 1) other + one_between (level + 1) (lent + 1) other
first_between level lent other h = grind (arith, nat_tests)

-- A half of a free leaf is parted, and the other half stays free.
half_parted : (part leaf half other : Span) (xs ys : List Span) → half.level ≡ leaf.level + 1
    → other.level ≡ leaf.level + 1
    → ((level : ℕ) → count_at_level level ys ≡ count_at_level level xs + count_at_level level (other ∷ []))
    → ((number : ℕ) → count_of_number number ys ≡ count_of_number number xs + count_of_number number (other ∷ []))
    → beside leaf part ≡ other ∷ beside half part
    → IsParted (half ∷ []) half part xs → IsParted (leaf ∷ []) leaf part ys
half_parted part leaf half other xs ys e f levels numbers way parted = record {
  low = parted.low;
  order = omega (arith, parted.order, e);
  counts = λ level. omega (
    arith,
    levels level,
    parted.counts level,
    count-one level half,
    count-one level other,
    count-one level leaf,
    ap (λ (n : ℕ). one_at n level) e,
    ap (λ (n : ℕ). one_at n level) f,
    ap (λ (n : ℕ). one_between n (part.level + 1) level) e,
    first_between leaf.level part.level level (omega (arith, parted.order, e)),
  );
  numbered = λ number. omega (
    arith,
    numbers number,
    parted.numbered number,
    ap (count_of_number number) way,
    number-append number (other ∷ []) (beside half part),
  );
}

pub lower_half_parted : (part : Span) (level start : ℕ) (xs : List Span) → level < part.level
    → part.start < start + size_of (level + 1)
    → IsParted (span_at start (level + 1) ∷ []) (span_at start (level + 1)) part xs
    → IsParted (span_at start level ∷ []) (span_at start level) part
    (xs ++ span_at (start + size_of (level + 1)) (level + 1) ∷ [])
lower_half_parted part level start xs low below parted =
    half_parted part (span_at start level) (span_at start (level + 1))
    (span_at (start + size_of (level + 1)) (level + 1)) xs _ refl refl
    (λ other. count-append other xs (span_at (start + size_of (level + 1)) (level + 1) ∷ []))
    (λ number. number-append number xs (span_at (start + size_of (level + 1)) (level + 1) ∷ []))
    (upper_beside (part.level - level) (part.level - (level + 1)) level start part.start (omega arith) below)
    parted

pub upper_half_parted : (part : Span) (level start : ℕ) (xs : List Span) → level < part.level
    → start + size_of (level + 1) ≤ part.start
    → IsParted (span_at (start + size_of (level + 1)) (level + 1) ∷ [])
    (span_at (start + size_of (level + 1)) (level + 1)) part xs
    → IsParted (span_at start level ∷ []) (span_at start level) part (span_at start (level + 1) ∷ xs)
upper_half_parted part level start xs low above parted =
    half_parted part (span_at start level) (span_at (start + size_of (level + 1)) (level + 1))
    (span_at start (level + 1)) xs _ refl refl
    (λ other. omega (arith, count-append other (span_at start (level + 1) ∷ []) xs))
    (λ number. omega (arith, number-append number (span_at start (level + 1) ∷ []) xs))
    (lower_beside (part.level - level) (part.level - (level + 1)) level start part.start (omega arith) above)
    parted

-- What a look at a part says of the free leaves from its start on. For the walk over a table of
-- parts.
use Rattle.std.proofs.Common.{◌≡◌, ◌<◌, ◌≤◌, ℕ, ◌+◌, ◌-◌, ◌%◌, true, false, List, [], ◌∷◌, Some, refl, sym, ap, subst, ◌∙◌}
use Rattle.std.proofs.Common.{inl, inr, arith}
use Rattle.std.specs.Prelude.{◌==◌, ◌&&◌, nat_le, IsTrue}
use Rattle.std.specs.List.{AllByRecursion, list_any}
use Rattle.std.proofs.lemmas.Bool.{cases_eq, cases_lt}
use Rattle.std.proofs.lemmas.Bool.Decides.{nat_tests}
use Rattle.ms_base.specs.declared.span.Span.{Span}
use Rattle.ms_base.specs.Level.{highest_level, size_of}
use Rattle.ms_buddy.specs.declared.leaf.Leaf.{Leaf}
use Rattle.ms_buddy.specs.declared.leaf.Leaf.TheVariants.{Free as FreeLeaf, Lent as LentTo}
use Rattle.ms_buddy.specs.Leaves.{LendsAt, LentLeaf, from_on, is_lent, is_same, span_at}
use Rattle.ms_buddy.specs.Row.{AreSmaller, AreWithin, Meets}
use Rattle.ms_buddy.specs.Tree.{Node, IsRootPart, IsTree, free_in, lent_in}
use Rattle.ms_buddy.proofs.TreeHalvesLemmas.{mod-past, size_of-some}
use Rattle.ms_buddy.proofs.bits.FreeNumberLemmas.{IsRootSpan}
use Rattle.ms_buddy.proofs.changes.CarvedLemmas.{clash}
use Rattle.ms_buddy.proofs.searches.CoverLemmas.{found_free, free_or_lent, it_covers, left, right}
use Rattle.ms_buddy.proofs.searches.FoundLemmas.{AreRising, alike}
use Rattle.ms_buddy.proofs.searches.FromLemmas.{all_listed, rest_of}

-- What holds of each part that is listed holds of all.
all_of_listed : (P : Span → Type 0) (parts : List Span)
    → ((part : Span) → list_any (is_same part) parts ≡ true → P part) → AllByRecursion P parts
all_of_listed P [] holds = tt
all_of_listed P (first ∷ parts) holds = (
  holds first (left _ _ (own first.start first.level)),
  all_of_listed P parts (λ part any. holds part (right _ _ any)),
)
  where
    own : (a b : ℕ) → ((a == a) && (b == b)) ≡ true
    own a b = grind (arith, nat_tests)

within : (a b : ℕ) → a ≤ b → nat_le a b ≡ true
within a b h = grind (arith, nat_tests)

before : (a b : ℕ) → b < a → nat_le a b ≡ false
before a b h = grind (arith, nat_tests)

-- From two offsets on the same parts start where none starts between them.
none_between : (from to : ℕ) (parts : List Span) → from ≤ to
    → AllByRecursion (λ other. from ≤ other.start → other.start < to → ⊥) parts → from_on from parts ≡ from_on to parts
none_between from to [] order none = refl
none_between from to (other ∷ parts) order none = elim (cases_lt other.start from) [
  | inl below ↦ rw (before from other.start below, before to other.start (omega (arith, below, order)))
      (none_between from to parts order none.1)
  | inr past ↦ elim (cases_lt other.start to) [
    | inl inside ↦ absurd (none.0 past inside)
    | inr beyond ↦ rw (within from other.start past, within to other.start beyond)
        (ap (λ rest. other ∷ rest) (none_between from to parts order none.1))
  ]
]

-- A free leaf that starts in a free leaf is it.
one_free : (node : Node) (part other : Span) → IsTree 0 node → list_any (is_same part) (free_in 0 0 node) ≡ true
    → list_any (is_same other) (free_in 0 0 node) ≡ true → part.start ≤ other.start
    → other.start < part.start + size_of part.level → part ≡ other
one_free node part other tree any too from below = taken part other
    (sym (found_free 0 0 node part other.start tree any (it_covers part.start other.start _ from below))
    ∙ found_free 0 0 node other other.start tree too
    (it_covers other.start other.start _ (omega arith) (omega (arith, size_of-some other.level))))
  where
    taken : (a b : Span) → Some a ≡ Some b → a ≡ b
    taken a b e = cc

-- A free leaf is the first from its start on, and the others start past its end.
pub free_seen : (node : Node) (level start : ℕ) → IsTree 0 node → AreRising (free_in 0 0 node)
    → list_any (is_same (span_at start level)) (free_in 0 0 node) ≡ true
    → from_on start (free_in 0 0 node) ≡ span_at start level ∷ from_on (start + size_of level) (free_in 0 0 node)
free_seen node level start tree rising any =
    rest_of start (free_in 0 0 node) (span_at start level) rising any (omega arith)
    (all_of_listed _ _ (λ other too from. from))
    ∙ ap (λ rest. span_at start level ∷ rest) (none_between (start + 1) (start + size_of level) (free_in 0 0 node)
    (omega (arith, size_of-some level))
    (all_of_listed _ _ (λ other too from below. absurd (past other from
    (ap (λ part. part.start) (one_free node (span_at start level) other tree any too (omega (arith, from)) below))))))
  where
    past : (other : Span) → start + 1 ≤ other.start → start ≡ other.start → ⊥
    past other from e = omega (arith, from, e)

-- None starts in a part that is lent.
pub lent_seen : (node : Node) (level start : ℕ) → IsTree 0 node
    → IsTrue (is_lent (lent_in 0 0 node) (span_at start level))
    → from_on start (free_in 0 0 node) ≡ from_on (start + size_of level) (free_in 0 0 node)
lent_seen node level start tree lent =
    none_between start (start + size_of level) (free_in 0 0 node) (omega arith)
    (all_of_listed _ _ (λ other any from below.
    free_or_lent 0 0 node other (span_at start level) other.start tree any
    (it_covers other.start other.start _ (omega arith) (omega (arith, size_of-some other.level))) lent
    (it_covers start other.start _ from below)))

-- Two parts of a level that meet are one.
same_start : (a b s : ℕ) → a % s ≡ 0 → b % s ≡ 0 → a < b + s → b < a + s → a ≡ b
same_start a b s e f h k = elim (cases_lt a b) [
  | inl less ↦ by_past a b e f (omega (arith, k, less)) (omega (arith, less))
  | inr least ↦ sym (by_past b a f e (omega (arith, h, least)) least)
]
  where
    by_past : (a b : ℕ) → a % s ≡ 0 → b % s ≡ 0 → b - a < s → a ≤ b → a ≡ b
    by_past a b e f h k =
        let back : a + (b - a) ≡ b = omega (arith, k) in
        omega (arith, k, subst (λ (n : ℕ). n % s ≡ b - a) back (mod-past a (b - a) s e h), f)

-- The free leaves that meet a part that isn't one of them are smaller.
pub smaller : (level start : ℕ) (free : List Span) → IsRootPart level start → AllByRecursion IsRootSpan free
    → AreWithin level start free → list_any (is_same (span_at start level)) free ≡ false → AreSmaller level start free
smaller level start free of_root of_roots are none = all_of_listed _ _ (λ other any meets.
    elim (cases_eq other.level level) [
      | inl same ↦
          let there = all_listed IsRootSpan free other of_roots any in
          let begins : other.start ≡ start = same_start other.start start (size_of level)
          (subst (λ (l : ℕ). other.start % size_of l ≡ 0) same there.aligned) of_root.aligned meets.0
          (subst (λ (l : ℕ). start < other.start + size_of l) same meets.1) in
          absurd (clash _ (subst (λ (p : Span). list_any (is_same p) free ≡ true)
          (alike other (span_at start level) begins same) any) none)
      | inr differs ↦ past level other.level
          (all_listed (λ other. Meets level start other → level ≤ other.level) free other are any meets) differs
    ])
  where
    past : (a b : ℕ) → a ≤ b → (b ≡ a → ⊥) → a < b
    past a b h n = omega (arith, n)

-- None is smaller than a part of the smallest size.
pub smallest_seen : (start : ℕ) (free : List Span) → AllByRecursion IsRootSpan free → AreSmaller highest_level start free
    → from_on start free ≡ from_on (start + size_of highest_level) free
smallest_seen start free of_roots are = none_between start (start + size_of highest_level) free (omega arith)
    (all_of_listed _ _ (λ other any from below. omega (
      arith,
      (all_listed IsRootSpan free other of_roots any).level_fits,
      all_listed (λ other. Meets highest_level start other → highest_level < other.level) free other are any
          (below, omega (arith, from, size_of-some other.level)),
    )))

-- What stands at an entry of its own level is lent.
pub lends_part : (lent : List LentLeaf) (level start : ℕ) (leaf : Leaf) → LendsAt lent level start leaf
    → IsTrue (is_lent lent (span_at start level))
lends_part lent level start FreeLeaf lends = absurd lends
lends_part lent level start (LentTo owner front) lends = lends.0

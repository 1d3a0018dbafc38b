-- Where the leaves of a node lie, and which of its halves has a leaf: for each walk down the tree.
use Rattle.std.proofs.Common.{◌≡◌, ◌<◌, ◌≤◌, ℕ, ◌+◌, Bool, false, not, cond, ◌&&◌, List, [], ◌∷◌, ◌++◌, map, None, refl}
use Rattle.std.proofs.Common.{ap, arith}
use Rattle.std.specs.Prelude.{◌==◌, nat_lt, nat_le}
use Rattle.std.specs.List.{AllByRecursion, list_any, filter, find}
use Rattle.std.proofs.lemmas.Bool.Decides.{nat_tests}
use Rattle.ms_base.specs.declared.span.Span.{Span}
use Rattle.ms_base.specs.Level.{size_of}
use Rattle.ms_buddy.specs.Tree.{Node}
use Rattle.ms_buddy.specs.Tree.{Free, Lent, Split}
use Rattle.ms_buddy.specs.Leaves.{LentLeaf, span_of, is_same, covers}
use Rattle.ms_buddy.specs.Tree.{IsTree, lent_in, free_in}
use Rattle.ms_buddy.proofs.TreeHalvesLemmas.{size_of-some, size_of-halves}

-- The part lies between two offsets.
pub record LiesIn (low high : ℕ) (part : Span) : Type 0 where
  pub from : low ≤ part.start
  pub to : part.start + size_of part.level ≤ high

abbrev pub LeafIn : ℕ → ℕ → LentLeaf → Type 0
LeafIn low high leaf = LiesIn low high (span_of leaf)

pub all_joined : {X : Type 0} (P : X → Type 0) (xs ys : List X) → AllByRecursion P xs → AllByRecursion P ys
    → AllByRecursion P (xs ++ ys)
all_joined P [] ys a b = b
all_joined P (x ∷ xs) ys a b = (a.0, all_joined P xs ys a.1 b)

pub all_weaker : {X : Type 0} (P Q : X → Type 0) (step : (x : X) → P x → Q x) (xs : List X) → AllByRecursion P xs
    → AllByRecursion Q xs
all_weaker P Q step [] all = tt
all_weaker P Q step (x ∷ xs) all = (step x all.0, all_weaker P Q step xs all.1)

wider : (low high least most : ℕ) (part : Span) → least ≤ low → high ≤ most → LiesIn low high part
    → LiesIn least most part
wider low high least most part h k lies = record { from = omega (arith, lies.from); to = omega (arith, lies.to) }

-- The lent leaves of a node lie in it.
pub lent_lies_in : (level start : ℕ) (node : Node) → IsTree level node
    → AllByRecursion (LeafIn start (start + size_of level)) (lent_in level start node)
lent_lies_in level start Free tree = tt
lent_lies_in level start (Lent owner front) tree = (record { from = omega arith; to = omega arith }, tt)
lent_lies_in level start (Split lower upper) tree =
    all_joined (LeafIn start (start + size_of level)) (lent_in (level + 1) start lower)
    (lent_in (level + 1) (start + size_of (level + 1)) upper)
    (all_weaker (LeafIn start (start + size_of (level + 1))) (LeafIn start (start + size_of level))
    (λ leaf lies. wider start (start + size_of (level + 1)) start (start + size_of level)
    (span_of leaf) (omega arith) (omega (arith, size_of-halves level tree.0)) lies)
    (lent_in (level + 1) start lower) (lent_lies_in (level + 1) start lower tree.2))
    (all_weaker (LeafIn (start + size_of (level + 1)) (start + size_of (level + 1) + size_of (level + 1)))
    (LeafIn start (start + size_of level))
    (λ leaf lies. wider (start + size_of (level + 1)) (start + size_of (level + 1) + size_of (level + 1))
    start (start + size_of level) (span_of leaf) (omega arith) (omega (arith, size_of-halves level tree.0)) lies)
    (lent_in (level + 1) (start + size_of (level + 1)) upper)
    (lent_lies_in (level + 1) (start + size_of (level + 1)) upper tree.3))

-- So do its free leaves.
pub free_lies_in : (level start : ℕ) (node : Node) → IsTree level node
    → AllByRecursion (LiesIn start (start + size_of level)) (free_in level start node)
free_lies_in level start Free tree = (record { from = omega arith; to = omega arith }, tt)
free_lies_in level start (Lent owner front) tree = tt
free_lies_in level start (Split lower upper) tree =
    all_joined (LiesIn start (start + size_of level)) (free_in (level + 1) start lower)
    (free_in (level + 1) (start + size_of (level + 1)) upper)
    (all_weaker (LiesIn start (start + size_of (level + 1))) (LiesIn start (start + size_of level))
    (λ part lies. wider start (start + size_of (level + 1)) start (start + size_of level) part (omega arith)
    (omega (arith, size_of-halves level tree.0)) lies)
    (free_in (level + 1) start lower) (free_lies_in (level + 1) start lower tree.2))
    (all_weaker (LiesIn (start + size_of (level + 1)) (start + size_of (level + 1) + size_of (level + 1)))
    (LiesIn start (start + size_of level))
    (λ part lies. wider (start + size_of (level + 1)) (start + size_of (level + 1) + size_of (level + 1))
    start (start + size_of level) part (omega arith) (omega (arith, size_of-halves level tree.0)) lies)
    (free_in (level + 1) (start + size_of (level + 1)) upper)
    (free_lies_in (level + 1) (start + size_of (level + 1)) upper tree.3))

-- No element passes the test.
abbrev pub NonePass : {X : Type 0} → (X → Bool) → List X → Type 0
NonePass test xs = AllByRecursion (λ x. test x ≡ false) xs

pub any-none : {X : Type 0} (test : X → Bool) (xs : List X) → NonePass test xs → list_any test xs ≡ false
any-none test [] none = refl
any-none test (x ∷ xs) none = rw none.0 (any-none test xs none.1)

pub filter-none : {X : Type 0} (test : X → Bool) (xs : List X) → NonePass test xs → filter (λ x. not (test x)) xs ≡ xs
filter-none test [] none = refl
filter-none test (x ∷ xs) none = rw none.0 (ap (λ (ys : List _). x ∷ ys) (filter-none test xs none.1))

pub map-none : {X : Type 0} (test : X → Bool) (f : X → X) (xs : List X) → NonePass test xs
    → map (λ x. cond (test x) (f x) x) xs ≡ xs
map-none test f [] none = refl
map-none test f (x ∷ xs) none = rw none.0 (ap (λ (ys : List _). x ∷ ys) (map-none test f xs none.1))

pub find-none : {X : Type 0} (test : X → Bool) (xs : List X) → NonePass test xs → find test xs ≡ None
find-none test [] none = refl
find-none test (x ∷ xs) none = rw none.0 (find-none test xs none.1)

-- A part that starts below an offset is none of those from it on, one from it on none of those
-- below.
same_above : (part other : Span) (middle high : ℕ) → part.start < middle → LiesIn middle high other
    → is_same part other ≡ false
same_above part other middle high h lies =
    differ other.start part.start (other.level == part.level) (omega (arith, lies.from))
  where
    differ : (a b : ℕ) (c : Bool) → b < a → ((a == b) && c) ≡ false
    differ a b c h = grind (arith, nat_tests)

same_below : (part other : Span) (low middle : ℕ) → middle ≤ part.start → LiesIn low middle other
    → is_same part other ≡ false
same_below part other low middle h lies =
    differ other.start part.start (other.level == part.level) (omega (arith, lies.to, size_of-some other.level))
  where
    differ : (a b : ℕ) (c : Bool) → a < b → ((a == b) && c) ≡ false
    differ a b c h = grind (arith, nat_tests)

-- An offset is in no part below it.
covers_below : (offset : ℕ) (part : Span) (low middle : ℕ) → middle ≤ offset → LiesIn low middle part
    → covers offset part ≡ false
covers_below offset part low middle h lies =
    apart (nat_le part.start offset) offset (part.start + size_of part.level) (omega (arith, lies.to))
  where
    apart : (c : Bool) (a b : ℕ) → b ≤ a → (c && nat_lt a b) ≡ false
    apart c a b h = grind (arith, nat_tests)

-- The leaf of a part is none of those of another node, which starts past it or ends before it.
pub none_above : (part : Span) (level middle : ℕ) (upper : Node) → IsTree level upper
    → part.start < middle
    → NonePass (λ leaf. is_same part (span_of leaf)) (lent_in level middle upper)
none_above part level middle upper tree h =
    all_weaker (LeafIn middle (middle + size_of level)) (λ leaf. is_same part (span_of leaf) ≡ false)
    (λ leaf lies. same_above part (span_of leaf) middle (middle + size_of level) h lies) (lent_in level middle upper)
    (lent_lies_in level middle upper tree)

pub none_below : (part : Span) (level start : ℕ) (lower : Node) → IsTree level lower
    → start + size_of level ≤ part.start
    → NonePass (λ leaf. is_same part (span_of leaf)) (lent_in level start lower)
none_below part level start lower tree h =
    all_weaker (LeafIn start (start + size_of level)) (λ leaf. is_same part (span_of leaf) ≡ false)
    (λ leaf lies. same_below part (span_of leaf) start (start + size_of level) h lies) (lent_in level start lower)
    (lent_lies_in level start lower tree)

-- No free leaf of a node covers an offset past it.
pub none_covers_below : (offset level start : ℕ) (lower : Node) → IsTree level lower
    → start + size_of level ≤ offset → NonePass (covers offset) (free_in level start lower)
none_covers_below offset level start lower tree h =
    all_weaker (LiesIn start (start + size_of level)) (λ part. covers offset part ≡ false)
    (λ part lies. covers_below offset part start (start + size_of level) h lies) (free_in level start lower)
    (free_lies_in level start lower tree)

-- Nor does a lent one.
pub none_lent_covers_below : (offset level start : ℕ) (lower : Node) → IsTree level lower
    → start + size_of level ≤ offset → NonePass (λ leaf. covers offset (span_of leaf)) (lent_in level start lower)
none_lent_covers_below offset level start lower tree h =
    all_weaker (LeafIn start (start + size_of level)) (λ leaf. covers offset (span_of leaf) ≡ false)
    (λ leaf lies. covers_below offset (span_of leaf) start (start + size_of level) h lies) (lent_in level start lower)
    (lent_lies_in level start lower tree)

-- A part is none of the free leaves of a node past its start or below it.
pub none_free_above : (part : Span) (level middle : ℕ) (upper : Node) → IsTree level upper
    → part.start < middle → NonePass (is_same part) (free_in level middle upper)
none_free_above part level middle upper tree h =
    all_weaker (LiesIn middle (middle + size_of level)) (λ other. is_same part other ≡ false)
    (λ other lies. same_above part other middle (middle + size_of level) h lies) (free_in level middle upper)
    (free_lies_in level middle upper tree)

pub none_free_below : (part : Span) (level start : ℕ) (lower : Node) → IsTree level lower
    → start + size_of level ≤ part.start → NonePass (is_same part) (free_in level start lower)
none_free_below part level start lower tree h =
    all_weaker (LiesIn start (start + size_of level)) (λ other. is_same part other ≡ false)
    (λ other lies. same_below part other start (start + size_of level) h lies) (free_in level start lower)
    (free_lies_in level start lower tree)

-- A leaf of a node is of the node's level or of a greater one.
pub lent_levels : (level start : ℕ) (node : Node)
    → AllByRecursion (λ leaf. level ≤ leaf.level) (lent_in level start node)
lent_levels level start Free = tt
lent_levels level start (Lent owner front) = (omega arith, tt)
lent_levels level start (Split lower upper) =
    all_joined (λ leaf. level ≤ leaf.level) (lent_in (level + 1) start lower)
    (lent_in (level + 1) (start + size_of (level + 1)) upper)
    (all_weaker (λ leaf. level + 1 ≤ leaf.level) (λ leaf. level ≤ leaf.level) (λ leaf h. omega arith)
    (lent_in (level + 1) start lower) (lent_levels (level + 1) start lower))
    (all_weaker (λ leaf. level + 1 ≤ leaf.level) (λ leaf. level ≤ leaf.level) (λ leaf h. omega arith)
    (lent_in (level + 1) (start + size_of (level + 1)) upper)
    (lent_levels (level + 1) (start + size_of (level + 1)) upper))

pub free_levels : (level start : ℕ) (node : Node)
    → AllByRecursion (λ part. level ≤ part.level) (free_in level start node)
free_levels level start Free = (omega arith, tt)
free_levels level start (Lent owner front) = tt
free_levels level start (Split lower upper) =
    all_joined (λ part. level ≤ part.level) (free_in (level + 1) start lower)
    (free_in (level + 1) (start + size_of (level + 1)) upper)
    (all_weaker (λ part. level + 1 ≤ part.level) (λ part. level ≤ part.level) (λ part h. omega arith)
    (free_in (level + 1) start lower) (free_levels (level + 1) start lower))
    (all_weaker (λ part. level + 1 ≤ part.level) (λ part. level ≤ part.level) (λ part h. omega arith)
    (free_in (level + 1) (start + size_of (level + 1)) upper)
    (free_levels (level + 1) (start + size_of (level + 1)) upper))

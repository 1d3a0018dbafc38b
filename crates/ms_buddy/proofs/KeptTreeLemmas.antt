-- What is true of the lent leaves of each tree, and what the callers of a split tree learn of it.
use Rattle.std.proofs.Common.{◌≤◌, ℕ, ◌+◌, List, [], ◌∷◌, ◌++◌}
use Rattle.std.proofs.Common.{refl, subst, arith}
use Rattle.std.specs.List.{AllByRecursion}
use Rattle.ms_base.specs.Level.{root_words, size_of}
use Rattle.ms_base.specs.Part.{IsPart}
use Rattle.ms_buddy.specs.Tree.{Node}
use Rattle.ms_buddy.specs.Tree.{Free, Lent, Split}
use Rattle.ms_buddy.specs.FreeBits.{IsKept}
use Rattle.ms_buddy.specs.Leaves.{LentLeaf, AreInOrder, AreLeaves, IsFront}
use Rattle.ms_buddy.specs.Tree.{IsRootPart, IsTree, lent_in}
use Rattle.ms_buddy.proofs.TreeHalvesLemmas.{lower_part, upper_part}
use Rattle.ms_buddy.proofs.WalkLemmas.{LeafIn, all_joined, all_weaker, lent_lies_in}

in_order_joined : (middle : ℕ) (xs ys : List LentLeaf)
    → AllByRecursion (λ leaf. leaf.start + size_of leaf.level ≤ middle) xs
    → AllByRecursion (λ leaf. middle ≤ leaf.start) ys
    → AreInOrder xs → AreInOrder ys → AreInOrder (xs ++ ys)
in_order_joined middle [] ys below above a b = b
in_order_joined middle (x ∷ xs) ys below above a b = (
  all_joined (λ later. x.start + size_of x.level ≤ later.start) xs ys a.0
      (all_weaker (λ leaf. middle ≤ leaf.start) (λ later. x.start + size_of x.level ≤ later.start)
      (λ later h. omega (arith, below.0)) ys above),
  in_order_joined middle xs ys below.1 above a.1 b,
)

lent_in_order : (level start : ℕ) (node : Node) → IsTree level node
    → AreInOrder (lent_in level start node)
lent_in_order level start Free tree = tt
lent_in_order level start (Lent owner front) tree = (tt, tt)
lent_in_order level start (Split lower upper) tree =
    in_order_joined (start + size_of (level + 1)) (lent_in (level + 1) start lower)
    (lent_in (level + 1) (start + size_of (level + 1)) upper)
    (all_weaker (LeafIn start (start + size_of (level + 1)))
    (λ leaf. leaf.start + size_of leaf.level ≤ start + size_of (level + 1)) (λ leaf lies. lies.to)
    (lent_in (level + 1) start lower) (lent_lies_in (level + 1) start lower tree.2))
    (all_weaker (LeafIn (start + size_of (level + 1)) (start + size_of (level + 1) + size_of (level + 1)))
    (λ leaf. start + size_of (level + 1) ≤ leaf.start) (λ leaf lies. lies.from)
    (lent_in (level + 1) (start + size_of (level + 1)) upper)
    (lent_lies_in (level + 1) (start + size_of (level + 1)) upper tree.3))
    (lent_in_order (level + 1) start lower tree.2)
    (lent_in_order (level + 1) (start + size_of (level + 1)) upper tree.3)

lent_parts : (level start : ℕ) (node : Node) → IsTree level node → IsRootPart level start
    → AllByRecursion (λ leaf. IsPart leaf.start leaf.level) (lent_in level start node)
lent_parts level start Free tree of_root = tt
lent_parts level start (Lent owner front) tree of_root = ((of_root.level_fits, of_root.aligned), tt)
lent_parts level start (Split lower upper) tree of_root =
    all_joined (λ leaf. IsPart leaf.start leaf.level) (lent_in (level + 1) start lower)
    (lent_in (level + 1) (start + size_of (level + 1)) upper)
    (lent_parts (level + 1) start lower tree.2 (lower_part level start of_root tree.0))
    (lent_parts (level + 1) (start + size_of (level + 1)) upper tree.3
    (upper_part level start (start + size_of (level + 1)) of_root tree.0 refl))

lent_fronts : (level start : ℕ) (node : Node) → IsTree level node
    → AllByRecursion (λ leaf. IsFront (size_of leaf.level) leaf.front) (lent_in level start node)
lent_fronts level start Free tree = tt
lent_fronts level start (Lent owner front) tree = (tree, tt)
lent_fronts level start (Split lower upper) tree =
    all_joined (λ leaf. IsFront (size_of leaf.level) leaf.front)
    (lent_in (level + 1) start lower) (lent_in (level + 1) (start + size_of (level + 1)) upper)
    (lent_fronts (level + 1) start lower tree.2) (lent_fronts (level + 1) (start + size_of (level + 1)) upper tree.3)

-- The lent leaves of a tree are parts of the root in order, with fronts that fit.
pub are_leaves : (node : Node) → IsTree 0 node → AreLeaves (lent_in 0 0 node)
are_leaves node tree = record {
  parts = lent_parts 0 0 node tree root_part;
  in_root = all_weaker (LeafIn 0 root_words) (λ leaf. leaf.start + size_of leaf.level ≤ root_words)
      (λ leaf lies. lies.to) (lent_in 0 0 node) (lent_lies_in 0 0 node tree);
  fronts = lent_fronts 0 0 node tree;
  in_order = lent_in_order 0 0 node tree;
}
  where
    root_part : IsRootPart 0 0
    root_part = record { level_fits = omega arith; aligned = refl; in_root = omega arith }

-- So what is kept of a root says it of its lent leaves.
pub kept_leaves : (lent : List LentLeaf) (size : ℕ) (counts words filled : List ℕ)
    → IsKept lent size counts words filled → AreLeaves lent
kept_leaves lent size counts words filled kept =
    subst AreLeaves kept.lent_is (are_leaves kept.node kept.tree.tree)

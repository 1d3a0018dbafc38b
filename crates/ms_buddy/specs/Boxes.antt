-- What a node in boxes stands for: the same split, with no boxes.
use Rattle.std.specs.Prelude.{◌≡◌, ℕ, Option, Some, None, List, [], ◌∷◌}
use Rattle.ms_buddy.specs.declared.node.Node.{Node as BoxedNode}
use Rattle.ms_buddy.specs.declared.node.Node.TheVariants.{Free as BoxedFree, Lent as BoxedLent, Split' as BoxedSplit}
use Rattle.ms_buddy.specs.Leaves.{LentLeaf}
use Rattle.ms_buddy.specs.Tree.{Node, Free, Lent, Split, lent_in_halves}

-- The node, with its halves out of their boxes.
abbrev pub shape_of : {A : Type 0} → BoxedNode A → Node
shape_of BoxedFree = Free
shape_of (BoxedLent owner front) = Lent owner front
shape_of (BoxedSplit p lower q upper) = Split (shape_of lower) (shape_of upper)

-- The leaves are those of the two halves, or, where someone holds the whole, its one leaf.
abbrev pub IsEnlarged : ℕ → ℕ → Option ℕ → ℕ → Node → Node → List LentLeaf → Type 0
IsEnlarged level start None front lower upper lent = lent_in_halves level start lower upper ≡ lent
IsEnlarged level start (Some owner) front lower upper lent =
    record { start = start; level = level; owner = owner; front = front } ∷ [] ≡ lent

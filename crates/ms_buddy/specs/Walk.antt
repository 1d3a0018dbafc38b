-- What a walk over the nodes of a tree has still to visit: a stack of nodes, the next one last.
use Rattle.std.specs.Prelude.{ℕ, ◌+◌, ◌≤◌, Option, Some, None, List, [], ◌∷◌, ◌++◌}
use Rattle.ms_base.specs.declared.span.Span.{Span}
use Rattle.ms_buddy.specs.declared.node_walk.Visit.{Visit}
use Rattle.ms_buddy.specs.Boxes.{shape_of}
use Rattle.ms_buddy.specs.Tree.{IsRootPart, IsTree, free_in}

-- The free leaves that are left, in order of address.
abbrev pub left_of : {A : Type 0} → List (Option (Visit A)) → List Span
left_of [] = []
left_of (None ∷ visits) = left_of visits
left_of (Some visit ∷ visits) = left_of visits ++ free_in visit.level visit.start (shape_of visit.node.now)

-- Each visit is of a tree and its part, and none is of a level below its number in the stack.
abbrev pub IsStack : {A : Type 0} → ℕ → List (Option (Visit A)) → Type 0
IsStack number [] = Unit {0}
IsStack number (None ∷ visits) = ⊥
IsStack number (Some visit ∷ visits) =
    (number ≤ visit.level) × IsRootPart visit.level visit.start × IsTree visit.level (shape_of visit.node.now)
    × IsStack (number + 1) visits

-- What a walk over the free leaves of a root chunk has still to give.
use Rattle.std.specs.Prelude.{List}
use Rattle.ms_base.specs.declared.span.Span.{Span}
use Rattle.ms_buddy.specs.declared.leaves.Area.{Area}
use Rattle.ms_buddy.specs.declared.leaves.Area.TheVariants.{Tree, Table}
use Rattle.ms_buddy.specs.declared.leaves.Walk.{Walk}
use Rattle.ms_buddy.specs.declared.leaves.Walk.TheVariants.{Nodes, Parts}
use Rattle.ms_buddy.specs.Leaves.{free_of}

-- The free leaves that are left, in order of address.
abbrev pub left_in : {A : Type 0} → Walk A → List Span
left_in (Nodes left) = left
left_in (Parts left) = left

-- The free leaves of the body that it is.
abbrev pub free_of_area : {A : Type 0} → Area A → List Span
free_of_area (Tree tree) = free_of tree.now
free_of_area (Table table) = free_of table.now

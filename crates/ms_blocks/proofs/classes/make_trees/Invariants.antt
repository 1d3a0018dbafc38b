use Rattle.std.proofs.Common.{◌≡◌, ◌≤◌, [], length, vec_capacity}
use Rattle.ms_blocks.specs.Classes.{AreClassed, all_of}
use Rattle.ms_blocks.proofs.classes.make_trees.Given as goal

-- So many trees are made, with no block, and there is room for the others.
abbrev pub invariant-loop : goal.invariant-loop
invariant-loop g l = record {
  many : length l.trees.items ≡ l.counter;
  classed : AreClassed 0 l.trees.items;
  none : all_of l.trees.items ≡ [];
  room : 64 ≤ vec_capacity l.trees;
}

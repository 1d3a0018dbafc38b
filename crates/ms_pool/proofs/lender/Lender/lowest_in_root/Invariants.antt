use Rattle.std.proofs.Common.{◌≡◌, ◌≤◌, ◌-◌, [], get_or}
use Rattle.std.specs.List.{find}
use Rattle.ms_base.specs.Level.{root_words}
use Rattle.ms_base.specs.Policy.{granule_of}
use Rattle.ms_buddy.specs.Leaves.{free_of}
use Rattle.ms_pool.proofs.searches.NextFreeLemmas.{is_enough_in, passes_from}
use Rattle.ms_pool.proofs.lender.Lender.lowest_in_root.Given as goal

-- What is found first is one of the leaves from the offset on.
abbrev pub invariant-loop-leaf : goal.invariant-loop-leaf
invariant-loop-leaf l = record {
  within : l.from ≤ root_words;
  first : find
      (passes_from (is_enough_in l.self.nodes.granules (granule_of l.self.policy) l.wish.words l.wish.committed l.root)
      l.level 0) (free_of (get_or l.self.trees.items l.root []))
      ≡ find (passes_from
      (is_enough_in l.self.nodes.granules (granule_of l.self.policy) l.wish.words l.wish.committed l.root) l.level
      l.from) (free_of (get_or l.self.trees.items l.root []));
}

abbrev pub decreases-loop-leaf : goal.decreases-loop-leaf
decreases-loop-leaf l = root_words - l.from

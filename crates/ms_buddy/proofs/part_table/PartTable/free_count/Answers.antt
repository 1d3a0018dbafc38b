-- The counts are those of the free leaves that the lent leaves leave over.
use Rattle.std.proofs.Common.{arith, ap, ◌∙◌}
use Rattle.ms_buddy.specs.Counts.{count_at_level}
use Rattle.ms_buddy.specs.Leaves.{free_of}
use Rattle.ms_buddy.proofs.FreeLeafLemmas.{free_of-kept}
use Rattle.ms_buddy.proofs.part_table.PartTable.free_count.Goals as goal

pub returns : goal.returns
returns g c =
    rw c.number.ensures.same
    (c.self.invariant.tree.counted.same c.args.level (omega (arith, c.number.ensures.same, c.number.ensures.below))
    ∙ ap (count_at_level c.args.level)
    (free_of-kept _ _ _ _ _ c.self.invariant ∙ ap free_of c.self.view_is))

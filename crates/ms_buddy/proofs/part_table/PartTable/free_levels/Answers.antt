-- The counted levels are those of the free leaves.
use Rattle.std.proofs.Common.{ap, ◌∙◌}
use Rattle.std.specs.List.{list_any}
use Rattle.ms_buddy.specs.Leaves.{free_of, is_of}
use Rattle.ms_buddy.proofs.FreeLeafLemmas.{free_of-kept}
use Rattle.ms_buddy.proofs.counts.TreeCountLemmas.{levels_told}
use Rattle.ms_buddy.proofs.part_table.PartTable.free_levels.Goals as goal

pub returns : goal.returns
returns g c level =
    levels_told c.self.invariant.node c.self.inside.counts c.levels_of.result level c.self.invariant.tree.tree
    c.self.invariant.tree.counted (c.levels_of.ensures level)
    ∙ ap (list_any (is_of level)) (free_of-kept _ _ _ _ _ c.self.invariant ∙ ap free_of c.self.view_is)

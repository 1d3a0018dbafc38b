-- From offset 0 on every leaf of the level counts.
use Rattle.std.proofs.Common.{◌∙◌}
use Rattle.ms_buddy.proofs.searches.FoundLemmas.{find-from_start}
use Rattle.ms_buddy.proofs.part_table.PartTable.lowest_free.Goals as goal

pub returns : goal.returns
returns g c = c.next_free.ensures ∙ find-from_start c.args.level _

use Rattle.ms_page.proofs.CellLemmas.{cells_add}
use Rattle.ms_page.proofs.laws.cells_add_up.Goals as goal

pub returns : goal.returns
returns c = cells_add

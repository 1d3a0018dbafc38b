use Rattle.std.proofs.Common.{◌≡◌, take}
use Rattle.ms_page.specs.Cells.{cells_of}
use Rattle.ms_page.proofs.cells.count.Given as goal

-- the cells of the first roots
abbrev pub invariant-loop-root : goal.invariant-loop-root
invariant-loop-root l = l.cells ≡ cells_of l.cell (take l.root-index l.roots)

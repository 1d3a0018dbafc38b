use Rattle.std.proofs.Common.{take}
use Rattle.ms_page.specs.Halfway.{IsTable}
use Rattle.ms_page.proofs.halfway.fill.Given as goal

-- the table of the first loaders
abbrev pub invariant-loop-loader : goal.invariant-loop-loader
invariant-loop-loader l = IsTable l.table.items (take l.loader-index l.halfway)

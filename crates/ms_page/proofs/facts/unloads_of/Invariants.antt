use Rattle.std.proofs.Common.{◌≡◌, take}
use Rattle.ms_page.specs.Facts.{unloads_of}
use Rattle.ms_page.proofs.facts.unloads_of.Given as goal

-- the unloads of the first columns
abbrev pub invariant-loop-column : goal.invariant-loop-column
invariant-loop-column l = l.unloads ≡ unloads_of (take l.column-index l.columns)

use Rattle.std.proofs.Common.{◌≡◌, length, take}
use Rattle.ms_page.specs.Stays.{AreBirths}
use Rattle.ms_page.proofs.stays.count_births.Given as goal

-- the births of the first loaders
abbrev pub invariant-loop-holding : goal.invariant-loop-holding
invariant-loop-holding l = record {
  births : AreBirths l.lines (take l.holding-index l.holdings) l.births.items;
  count : length l.births.items ≡ length l.fn.births.items;
}

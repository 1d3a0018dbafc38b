use Rattle.std.proofs.Common.{◌≡◌, sum, take}
use Rattle.ms_page.specs.Stays.{sums_to}
use Rattle.ms_page.proofs.stays.sums.Given as goal

-- the sums up to here, and that of all numbers so far
abbrev pub invariant-loop-number : goal.invariant-loop-number
invariant-loop-number l = record {
  sums : l.sums.items ≡ sums_to l.numbers l.number-index;
  so_far : l.sum ≡ sum (take l.number-index l.numbers);
}

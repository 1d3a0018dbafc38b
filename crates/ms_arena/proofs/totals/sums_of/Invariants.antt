use Rattle.std.proofs.Common.{◌≡◌, ◌≤◌, ◌*◌, ◌^◌, take}
use Rattle.ms_base.specs.Totals.{capacity_of, fronts_of}
use Rattle.ms_arena.proofs.totals.sums_of.Given as goal

abbrev pub invariant-loop-index : goal.invariant-loop-index
invariant-loop-index l = record {
  capacity : l.capacity ≡ capacity_of (take l.index l.account.chunks);
  fronts : l.fronts ≡ fronts_of (take l.index l.account.chunks);
  words : l.capacity ≤ l.index * 2 ^ 19;
  committed : l.fronts ≤ l.index * 2 ^ 19;
}

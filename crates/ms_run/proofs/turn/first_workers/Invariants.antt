use Rattle.std.proofs.Common.{◌≡◌, ◌<◌, length, take}
use Rattle.ms_run.specs.Turn.{IsNumbered}
use Rattle.ms_run.proofs.turn.first_workers.Given as goal

-- The loaders of the first lines are numbered, and the next worker is one of them.
abbrev pub invariant-loop-line : goal.invariant-loop-line
invariant-loop-line l = record {
  below : l.next < l.workers;
  names : length l.first.items ≡ 65536;
  numbered : IsNumbered (take l.line-index l.lines) l.workers l.first.items l.next;
}

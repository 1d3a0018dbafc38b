use Rattle.std.proofs.Common.{◌≡◌, ◌+◌, ◌≤◌, length, drop}
use Rattle.ms_arena.specs.Kept.{MayAllBeKept, with_all}
use Rattle.ms_arena.proofs.kept.add_all.Given as goal

-- What is left may be added still, and makes the whole.
abbrev pub invariant-loop-run : goal.invariant-loop-run
invariant-loop-run l = record {
  may : MayAllBeKept l.ordered.kept (drop l.run-index l.runs);
  whole : with_all l.ordered.kept (drop l.run-index l.runs) ≡ with_all l.fn.ordered.kept l.fn.runs;
  room : length l.runs ≤ l.run-index + l.ordered.room;
}

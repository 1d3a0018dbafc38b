use Rattle.std.specs.Prelude.{◌≤◌, take, vec_capacity}
use Rattle.ms_run.proofs.ActiveLemmas.{AreFound}
use Rattle.ms_run.proofs.turn.find_active.Given as goal

-- There is room for eight workers, and those of the first lines are found.
abbrev pub invariant-loop-line : goal.invariant-loop-line
invariant-loop-line l =
    (8 ≤ vec_capacity l.active) × AreFound l.first l.phase l.workers (take l.line-index l.lines) l.active.items l.positions

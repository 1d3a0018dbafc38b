use Rattle.std.proofs.Common.{true, length, ◌-◌}
use Rattle.std.specs.List.{All}
use Rattle.ms_base.specs.State.{empty_machine, limits_of}
use Rattle.ms_run.specs.Counting.{IsCounted}
use Rattle.ms_run.specs.Replay.{IsDetailed}
use Rattle.ms_run.specs.Sink.{Puts}
use Rattle.ms_run.proofs.replays.ReplayLemmas.{PhasesFirst}
use Rattle.ms_run.proofs.replaying.answer_phases.Given as goal

-- the first lines are answered phase by phase, by turns, and their answers are put, reports with
-- their details; the running amount is the words in use, and peaks are kept for full reports
abbrev pub invariant-loop-at : goal.invariant-loop-at
invariant-loop-at g l = record {
  phases : Puts g.S.AnswerSink.took (λ answers.
      PhasesFirst (g.G.Gate.told l.manner.gate.now) l.fn.settings.workers (empty_machine (limits_of l.fn.settings)) l.lines l.at answers l.run l.turn
      × All (IsDetailed l.manner.verbosity) answers) l.fn.sink l.sink;
  counted : IsCounted true l.manner.verbosity l.run;
}

abbrev pub decreases-loop-at : goal.decreases-loop-at
decreases-loop-at g l = length l.lines - l.at

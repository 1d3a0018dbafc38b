use Rattle.std.proofs.Common.{take}
use Rattle.ms_run.specs.Gating.{AreTasksGated}
use Rattle.ms_run.specs.Shares.{tasks_by}
use Rattle.ms_run.proofs.sharing.WorkLemmas.{IsWorkedTo}
use Rattle.ms_run.proofs.working.work.Given as goal

abbrev pub invariant-loop-at : goal.invariant-loop-at
invariant-loop-at g l = record {
  worked : IsWorkedTo l.fn.share l.pool l.counted l.loaders (tasks_by l.lines l.at-items) l.at-index
      l.replies;
  gated : AreTasksGated (g.G.Gate.told l.gate) l.fn.share.worker (take l.at-index (tasks_by l.lines l.at-items));
}

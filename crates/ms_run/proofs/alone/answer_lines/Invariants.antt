use Rattle.std.proofs.Common.{take}
use Rattle.ms_run.specs.Counting.{IsCounted}
use Rattle.ms_run.specs.Gating.{AreGated}
use Rattle.ms_run.specs.Sink.{AreOfLines, Puts}
use Rattle.ms_run.proofs.alone.answer_lines.Given as goal

-- the first lines are answered between the gate's calls, and words in use and peaks counted on
abbrev pub invariant-loop-line : goal.invariant-loop-line
invariant-loop-line g l = record {
  answers : Puts g.S.AnswerSink.took (AreOfLines l.worker.manner.now.verbosity l.fn.run (take l.line-index l.lines) l.run) l.fn.sink l.sink;
  counted : IsCounted l.worker.counts l.worker.manner.now.verbosity l.run;
  gated : AreGated (g.G.Gate.told l.worker.manner.now.gate.now) (λ name. l.worker.number) (take l.line-index l.lines);
}

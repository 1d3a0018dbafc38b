use Rattle.std.proofs.Common.{◌≡◌, take, true}
use Rattle.ms_loader.specs.Amounts.{amounts_of}
use Rattle.ms_answers.specs.declared.verbosity.Verbosity.TheVariants.{Full}
use Rattle.ms_run.specs.Counting.{IsCounted}
use Rattle.ms_run.specs.Observing.{PutsAndSees, WatchesLines}
use Rattle.ms_run.proofs.observing.watch_lines.Given as goal

-- the first lines are answered and seen, and the amounts of all loaders are counted on
abbrev pub invariant-loop-line : goal.invariant-loop-line
invariant-loop-line g l = record {
  watched :
      PutsAndSees g.S.AnswerSink.took g.O.Observer.saw (WatchesLines l.fn.run (take l.line-index l.lines) l.run)
      l.fn.sink l.sink l.fn.observer l.observer;
  counted : IsCounted true Full l.run;
  amounts : l.amounts ≡ amounts_of l.run.system;
}

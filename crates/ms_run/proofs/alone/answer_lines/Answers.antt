use Rattle.std.proofs.Common.{◌≡◌, ◌∙◌, ◌∷◌, [], ℕ, List, ap, arith, length, subst, take}
use Rattle.std.proofs.Math.Seq.{take-length}
use Rattle.ms_trace.specs.declared.trace.Line.{Line}
use Rattle.ms_run.specs.Sink.{AreOfLines, Puts}
use Rattle.ms_run.proofs.AloneLemmas.{line_answered, none_answered, one_more_answered}
use Rattle.ms_run.proofs.GateLemmas.{all_gated, more_gated, none_gated}
use Rattle.ms_run.proofs.alone.answer_lines.Goals as goal

pub loop-line-init : goal.loop-line-init
loop-line-init g c = record {
  answers = none_answered g.S.AnswerSink.took c.args.worker.now.manner.now.verbosity c.args.run.now c.args.sink.now;
  counted = c.requires;
  gated = none_gated (g.G.Gate.told c.args.worker.now.manner.now.gate.now) (λ name. c.args.worker.now.number);
}

pub loop-line-preserved : goal.loop-line-preserved
loop-line-preserved g c = record {
  answers = one_more_answered g.S.AnswerSink.took c.args.worker.now.manner.now.verbosity _ _ _ c.args.lines.now c.loop-line.line-index _
      c.args.sink.now c.loop-line.sink c.answer_line.new.sink c.loop-line.invariant.answers
      c.loop-line-test.true
      (subst (λ (line : Line). Puts g.S.AnswerSink.took (AreOfLines c.args.worker.now.manner.now.verbosity c.loop-line.run (line ∷ [])
      c.answer_line.new.run) c.loop-line.sink c.answer_line.new.sink) c.line-item.is
      (line_answered g.S.AnswerSink.took c.args.worker.now.manner.now.verbosity _ _ _ _ _ _ c.in_ok-answer_line.ensures.answered));
  counted = c.in_ok-answer_line.ensures.counted;
  gated = more_gated (g.G.Gate.told c.args.worker.now.manner.now.gate.now) (λ name. c.args.worker.now.number) c.args.lines.now
      c.loop-line.line-index _ _ c.loop-line.invariant.gated c.loop-line-test.true c.line-item.is
      c.in_ok-answer_line.ensures.gated;
}

pub returns-clause-answers : goal.returns-clause-answers
returns-clause-answers g c =
    let ends : c.loop-line.line-index ≡ length c.args.lines.now =
    omega (arith, c.loop-line-test.false, c.loop-line.auto.line-index-end) in
    subst (λ (lines : List Line). Puts g.S.AnswerSink.took
    (AreOfLines c.args.worker.now.manner.now.verbosity c.args.run.now lines c.loop-line.run) c.args.sink.now c.loop-line.sink)
    (ap (λ (n : ℕ). take n c.args.lines.now) ends ∙ take-length c.args.lines.now) c.loop-line.invariant.answers

pub returns-clause-counted : goal.returns-clause-counted
returns-clause-counted g c = c.loop-line.invariant.counted

pub returns-clause-gated : goal.returns-clause-gated
returns-clause-gated g c =
    all_gated (g.G.Gate.told c.args.worker.now.manner.now.gate.now) (λ name. c.args.worker.now.number) c.args.lines.now c.loop-line.line-index
    c.loop-line.invariant.gated (omega (arith, c.loop-line-test.false, c.loop-line.auto.line-index-end))

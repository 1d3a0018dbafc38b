use Rattle.std.proofs.Common.{◌∙◌}
use Rattle.std.proofs.lemmas.Result.{on_ok_weaker}
use Rattle.ms_base.specs.State.{limits_of}
use Rattle.ms_run.proofs.AloneLemmas.{all_answered, counted_if_kept}
use Rattle.ms_run.proofs.alone.answer_alone.Goals as goal

pub answer_lines-requires : goal.answer_lines-requires
answer_lines-requires g c = record {
  good = c.in_ok-run.ensures.good;
  used = λ looks. c.in_ok-run.ensures.used;
  kept = c.in_ok-run.ensures.kept;
  counting = λ full. counted_if_kept c.looks.result c.is_some.result
      (c.is_some.ensures ∙ c.in_ok-run.ensures.kept ∙ full);
}

pub returns-clause-answers : goal.returns-clause-answers
returns-clause-answers g c = on_ok_weaker c.answer_lines.result (λ answered.
    all_answered g.S.AnswerSink.took (limits_of c.args.settings) c.args.manner.now.verbosity c.args.lines.now _ _ c.args.sink.now
    c.answer_lines.new.sink c.in_ok-run.ensures.taken answered)
    c.answer_lines.ensures.answers

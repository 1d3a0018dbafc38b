use Rattle.std.proofs.Common.{refl, ◌∙◌, sym}
use Rattle.ms_run.proofs.AloneLemmas.{end_answered, step_answered}
use Rattle.ms_run.proofs.GateLemmas.{between_gated, step_gated}
use Rattle.ms_run.proofs.replays.ReplayLemmas.{none_asked}
use Rattle.ms_run.proofs.metered.StepUseLemmas.{counted_on, counted_use}
use Rattle.ms_run.proofs.alone.answer_line.Goals as goal

pub returns-in_default-clause-answered : goal.returns-in_default-clause-answered
returns-in_default-clause-answered g c =
    end_answered g.S.AnswerSink.took c.args.worker.now.manner.now.verbosity c.args.run.now c.args.line.now c.args.sink.now _
    (none_asked c.args.line.now.command (λ step is. c.in_default.not-Step step (c.command.ensures ∙ is)))
    c.in_ok-answer_between.ensures

pub raise-requires : goal.raise-requires
raise-requires g c = λ kept.
    counted_use c.args.worker.now.counts c.args.worker.now.manner.now.verbosity c.args.run.now _ c.in-Step.step c.step-reply.result c.used_by-before.result
    c.used_by-after.result _ c.requires c.step-reply.ensures.step c.step-reply.ensures.good c.used_by-before.ensures
    c.used_by-after.ensures c.used_by-before.type_inv refl (c.requires.counting (sym c.requires.kept ∙ kept))

pub returns-clause-answered : goal.returns-clause-answered
returns-clause-answered g c =
    step_answered g.S.AnswerSink.took c.args.worker.now.manner.now.verbosity c.args.run.now _ c.args.line.now c.in-Step.step _ c.args.sink.now
    c.put_reply.new.sink (sym c.command.ensures ∙ c.in-Step.is) c.in_ok-put_reply.ensures c.number-number.ensures refl c.step-reply.ensures.step c.raise.ensures.peaks

pub returns-clause-counted : goal.returns-clause-counted
returns-clause-counted g c =
    counted_on c.args.worker.now.counts c.args.worker.now.manner.now.verbosity c.args.run.now _ c.requires c.step-reply.ensures.good
    (counted_use c.args.worker.now.counts c.args.worker.now.manner.now.verbosity c.args.run.now _ c.in-Step.step c.step-reply.result c.used_by-before.result
    c.used_by-after.result _ c.requires c.step-reply.ensures.step c.step-reply.ensures.good c.used_by-before.ensures
    c.used_by-after.ensures c.used_by-before.type_inv refl) c.raise.ensures.kept

pub returns-in_default-clause-gated : goal.returns-in_default-clause-gated
returns-in_default-clause-gated g c =
    between_gated (g.G.Gate.told c.args.worker.now.manner.now.gate.now) (λ name. c.args.worker.now.number) c.args.line.now _
    (none_asked c.args.line.now.command (λ step is. c.in_default.not-Step step (c.command.ensures ∙ is)))

pub returns-clause-gated : goal.returns-clause-gated
returns-clause-gated g c =
    step_gated (g.G.Gate.told c.args.worker.now.manner.now.gate.now) c.args.worker.now.number c.args.line.now c.in-Step.step _ _
    (sym c.command.ensures ∙ c.in-Step.is) c.number-number.ensures c.before-2.ensures c.after.ensures

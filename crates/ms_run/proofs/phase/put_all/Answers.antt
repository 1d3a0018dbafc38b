-- One more answer is put.
use Rattle.std.proofs.Common.{◌∙◌, ◌++◌, ◌∷◌, [], List, ap, append-nil, append_assoc, subst, sym}
use Rattle.std.proofs.lemmas.List.{nil_from_length}
use Rattle.ms_answers.specs.declared.replies.Answer.{Answer}
use Rattle.ms_run.specs.Sink.{PutsAll}
use Rattle.ms_run.proofs.AloneLemmas.{puts_more, puts_none}
use Rattle.ms_run.proofs.phase.put_all.Goals as goal

pub loop-answer-init : goal.loop-answer-init
loop-answer-init g c = (
  [],
  sym c.into_iter-answer-iterator.ensures.into_iter_gives.0,
  puts_none g.S.AnswerSink.took c.args.sink.now,
)

pub loop-answer-preserved : goal.loop-answer-preserved
loop-answer-preserved g c =
    let so_far = c.loop-answer.invariant in
    let answer = c.in-Some.answer in (
      so_far.0 ++ answer ∷ [],
      so_far.1
          ∙ ap (λ (l : List Answer). so_far.0 ++ l) c.in-Some.ensures.steps.0
          ∙ sym (append_assoc so_far.0 (answer ∷ []) c.next.new.self.rest.items),
      puts_more g.S.AnswerSink.took so_far.0 (answer ∷ []) c.args.sink.now c.loop-answer.sink c.put.new.self so_far.2
          c.in_ok-put.ensures,
    )

pub returns : goal.returns
returns g c =
    let so_far = c.loop-answer.invariant in
    let none = nil_from_length c.loop-answer.answer-iterator.rest.items
    (sym c.loop-answer.answer-iterator.rest.ok.0 ∙ c.in-None.ensures.steps.0) in
    subst (λ (l : List Answer). PutsAll g.S.AnswerSink.took l c.args.sink.now c.loop-answer.sink)
    (sym (so_far.1 ∙ ap (λ (l : List Answer). so_far.0 ++ l) none ∙ append-nil so_far.0)) so_far.2

use Rattle.std.proofs.Common.{arith}
use Rattle.std.specs.Prelude.{string_bytes}
use Rattle.ms_report.proofs.ReplyLemmas.{few_below, few_still, tells_more}
use Rattle.ms_report.proofs.answer_text.AnswerText.push.Goals as goal

pub count-requires : goal.count-requires
count-requires c =
    let text = c.self.inside.text.bytes in
    few_below _ _ c.self.inside.refusals c.self.invariant (omega (arith, text.ok.0, text.ok.1, text.small))

pub invariant_of-self : goal.invariant_of-self
invariant_of-self c =
    few_still (string_bytes c.self.inside.text) _ c.self.inside.addresses c.self.inside.verbosity c.self.inside.settings
    c.self.inside.refusals _ c.args.answer.now c.self.invariant c.in-Ok.ensures c.count.ensures

pub returns-in-Ok-clause-told : goal.returns-in-Ok-clause-told
returns-in-Ok-clause-told c = rw (← c.self.view_is) (λ first before told.
    tells_more first _ before c.args.answer.now _ _ told c.in-Ok.ensures c.count.ensures)

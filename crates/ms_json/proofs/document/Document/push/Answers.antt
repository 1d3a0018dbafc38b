-- What an answer completes was told, and then the state that its report shows.
use Rattle.std.proofs.Common.{arith, ◌∙◌, sym}
use Rattle.std.specs.Prelude.{string_bytes}
use Rattle.ms_report.proofs.ReplyLemmas.{few_below}
use Rattle.ms_json.proofs.DocumentLemmas.{few_more, tells_with}
use Rattle.ms_json.proofs.document.Document.push.Goals as goal
use Rattle.ms_json.proofs.document.Document.push.Goals.{in-Ok, in-Err}

pub count-requires : goal.count-requires
count-requires c =
    let text = c.self.inside.text.bytes in
    elim c.match-told.branch [
      | in-Ok w ↦ rw w.self-inside-is
          (few_below _ _ c.self.inside.refusals c.self.invariant (omega (arith, text.ok.0, text.ok.1, text.small)))
      | in-Err w ↦ absurd (cc (w.pushed-is, c.in-Ok-pushed.is))
    ]

pub returns-in-Ok-pushed : goal.returns-in-Ok-pushed
returns-in-Ok-pushed c = elim c.match-told.branch [
  | in-Ok w ↦
      let ok = sym w.pushed-is ∙ c.in-Ok-pushed.is in
      rw (w.self-inside-is, ← c.self.view_is) (λ first before told.
      tells_with first _ before c.args.answer.now _ _ _ _ _ _ w.in-Ok.ensures.text w.in-Ok.ensures.later w.in-Ok.ensures.run
      (rw ok at w.push_reported-pushed.ensures.reports) (rw ok at w.push_reported-pushed.ensures.more)
      (rw w.self-inside-is at c.count.ensures) told)
  | in-Err w ↦ absurd (cc (w.pushed-is, c.in-Ok-pushed.is))
]

pub invariant_of-self : goal.invariant_of-self
invariant_of-self c = elim c.match-told.branch [
  | in-Ok w ↦ rw w.self-inside-is
      (few_more (string_bytes c.self.inside.text) _ c.self.inside.refusals _ c.self.inside.later c.self.inside.addresses
      c.self.inside.pending c.args.answer.now c.self.invariant w.in-Ok.ensures.text
      (rw w.self-inside-is at c.count.ensures))
  | in-Err w ↦ absurd (cc (w.pushed-is, c.in-Ok-pushed.is))
]

use Rattle.std.proofs.Common.{rules, ◌∙◌, ◌/◌, ap, arith}
use Rattle.ms_loader_map.specs.Slots.{slot_at}
use Rattle.ms_loader_map.proofs.slots.PageLemmas.{page_as_it_was, with_page}
use Rattle.std.proofs.lemmas.Result.{IfOk-from_err}
use Rattle.ms_loader_map.proofs.loaders.slots.Slots.make_room.Goals as goal

pub loop-preserved : goal.loop-preserved
loop-preserved c = (
  search rules,
  search rules,
  λ other. ap (λ pages. slot_at pages other) c.in_ok-push.ensures.items
      ∙ with_page c.loop.self-inside.pages.items c.new.result other c.new.ensures ∙ c.loop.invariant.2 other,
)

pub returns-in_err-push-clause-page : goal.returns-in_err-push-clause-page
returns-in_err-push-clause-page c = IfOk-from_err c.from_residual.result _ c.from_residual.ensures.0

pub returns-in_err-push-clause-slot : goal.returns-in_err-push-clause-slot
returns-in_err-push-clause-slot c = IfOk-from_err c.from_residual.result _ c.from_residual.ensures.0

pub returns-clause-stays : goal.returns-clause-stays
returns-clause-stays c = λ other.
    page_as_it_was c.loop.self-inside.pages.items (c.from-page.result / 256) c.index_mut.result.now c.lengthen.new.self
    (omega (arith, c.loop-test.false, c.loop.invariant.0)) c.index_mut.ensures.value c.lengthen.ensures.slots other
    ∙ c.loop.invariant.2 other

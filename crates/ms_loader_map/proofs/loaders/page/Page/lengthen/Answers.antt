use Rattle.std.proofs.Common.{rules, ◌∙◌, ap}
use Rattle.ms_loader_map.specs.Slots.{in_page}
use Rattle.ms_loader_map.proofs.slots.PageLemmas.{with_slot}
use Rattle.ms_loader_map.proofs.loaders.page.Page.lengthen.Goals as goal

pub loop-preserved : goal.loop-preserved
loop-preserved c = (
  search rules,
  search rules,
  λ other. ap (λ page. in_page page other) c.in_ok-push.ensures.items
      ∙ with_slot c.loop.self-inside.slots.items other ∙ c.loop.invariant.2 other,
)

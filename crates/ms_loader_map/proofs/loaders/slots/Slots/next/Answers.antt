use Rattle.std.proofs.Common.{rules, ◌∙◌, []}
use Rattle.std.proofs.lemmas.List.{get_or_default}
use Rattle.ms_loader_map.proofs.slots.PageLemmas.{found_in_page}
use Rattle.ms_loader_map.proofs.loaders.slots.Slots.next.Goals as goal

pub returns-in-Some-clause-next : goal.returns-in-Some-clause-next
returns-in-Some-clause-next c = rw (← c.self.view_is) (found_in_page c.self.inside.pages.items c.index.result.now
    c.args.from c.loop-page.page c.loop-page.slot c.in-Some.found c.in-Some.boxed.now
    (c.index.ensures ∙ get_or_default c.self.inside.pages.items c.loop-page.page c.index.result.now [] (search rules))
    c.loop-page.invariant.0
    c.loop-page.invariant.2 c.in-Some.ensures.within c.in-Some.ensures.next)

use Rattle.ms_loader_map.proofs.slots.PageLemmas.{last_rest, next_rest}
use Rattle.ms_loader_map.proofs.loaders.walks.Walk.next.Goals as goal

pub returns-in-Some : goal.returns-in-Some
returns-in-Some c = rw (← c.self.view_is) (next_rest c.self.inside.slots.now c.self.inside.from c.in-Some.number
    c.in-Some.boxed.now c.in-Some.ensures.next)

pub returns-in-None : goal.returns-in-None
returns-in-None c = rw (← c.self.view_is) (
  last_rest c.self.inside.slots.now c.self.inside.from c.in-None.ensures.none,
  last_rest c.self.inside.slots.now c.self.inside.from c.in-None.ensures.none,
)

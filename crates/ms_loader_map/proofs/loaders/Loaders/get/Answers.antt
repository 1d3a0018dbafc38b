use Rattle.std.proofs.Common.{Some, sym, ap, ◌∙◌}
use Rattle.ms_loader_map.specs.Slots.{value_of}
use Rattle.ms_loader_map.proofs.slots.ChangeLemmas.{named_rest}
use Rattle.ms_loader_map.proofs.loaders.Loaders.get.Goals as goal

pub returns-in-Some : goal.returns-in-Some
returns-in-Some c = rw (← c.self.view_is) (ap Some c.loader.ensures ∙ ap value_of c.in-Some.ensures
    ∙ sym (named_rest c.self.inside.slots c.args.name c.self.invariant.at_names))

pub returns-in-None : goal.returns-in-None
returns-in-None c = rw (← c.self.view_is) (ap value_of c.in-None.ensures
    ∙ sym (named_rest c.self.inside.slots c.args.name c.self.invariant.at_names))

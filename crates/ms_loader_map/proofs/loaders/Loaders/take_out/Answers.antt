use Rattle.std.proofs.Common.{sym, ap, ◌∙◌}
use Rattle.ms_loader_map.specs.Slots.{slot_at, value_of}
use Rattle.ms_loader_map.proofs.slots.ChangeLemmas.{gone_rest, named_rest}
use Rattle.ms_loader_map.proofs.slots.KeptLemmas.{kept_gone, kept_same, nothing_gone, some_kept}
use Rattle.ms_loader_map.proofs.loaders.Loaders.take_out.Goals as goal

pub overflow_sub-self : goal.overflow_sub-self
overflow_sub-self c = some_kept c.self.inside.slots c.self.inside.first c.self.inside.count c.args.name
    c.in-Some.boxed c.self.invariant (sym c.in-Some.ensures.found)

pub invariant_of-self : goal.invariant_of-self
invariant_of-self c = kept_gone c.self.inside.slots c.take.new.self c.self.inside.first c.self.inside.first
    c.self.inside.count c.args.name c.in-Some.boxed c.self.invariant c.take.ensures.gone
    (sym c.in-Some.ensures.found) c.self.invariant.none_below

pub invariant_of-self-in-None : goal.invariant_of-self-in-None
invariant_of-self-in-None c = kept_same c.self.inside.slots c.take.new.self c.self.inside.first c.self.inside.count
    c.self.invariant (nothing_gone (slot_at c.self.inside.slots) (slot_at c.take.new.self) c.args.name
    c.take.ensures.gone (sym c.in-None.ensures.found))

pub returns-in-Some-clause-found : goal.returns-in-Some-clause-found
returns-in-Some-clause-found c = rw (← c.self.view_is)
    (named_rest c.self.inside.slots c.args.name c.self.invariant.at_names ∙ sym (ap value_of c.in-Some.ensures.found))

pub returns-in-Some-clause-rest : goal.returns-in-Some-clause-rest
returns-in-Some-clause-rest c = rw (← c.self.view_is)
    (gone_rest c.self.inside.slots c.take.new.self c.args.name c.self.invariant.at_names c.take.ensures.gone)

pub returns-in-None-clause-none : goal.returns-in-None-clause-none
returns-in-None-clause-none c = rw (← c.self.view_is)
    (named_rest c.self.inside.slots c.args.name c.self.invariant.at_names ∙ sym (ap value_of c.in-None.ensures.found))

pub returns-in-None-clause-rest : goal.returns-in-None-clause-rest
returns-in-None-clause-rest c = rw (← c.self.view_is)
    (gone_rest c.self.inside.slots c.take.new.self c.args.name c.self.invariant.at_names c.take.ensures.gone)

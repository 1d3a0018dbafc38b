use Rattle.std.proofs.Common.{◌≡◌, rules, ℕ, List, ◌∙◌, ap}
use Rattle.ms_base.specs.Names.{named}
use Rattle.ms_loader.specs.Loader.{LoaderView}
use Rattle.ms_loader_map.proofs.slots.ChangeLemmas.{new_rest, same_rest}
use Rattle.ms_loader_map.proofs.slots.KeptLemmas.{kept_new, kept_same}
use Rattle.ms_loader_map.proofs.loaders.Loaders.stand.Goals as goal

-- The box has the name that is asked for.
abbrev named_so : (name : ℕ) (boxed : ℕ × LoaderView) → boxed.0 ≡ name → boxed ≡ (name, boxed.1)
named_so name boxed is = ap (λ (n : ℕ). (n, boxed.1)) is

pub invariant_of-self : goal.invariant_of-self
invariant_of-self c = kept_new c.self.inside.slots c.put.new.self c.self.inside.first c.self.inside.count c.args.name
    c.min-self-inside.result c.args.boxed.1 c.self.invariant
    (rw (← named_so c.args.name c.args.boxed c.requires.name_is) c.in-Ok.ensures.at_names) c.in-Ok.ensures.few
    (ap (λ (loaders : List (ℕ × LoaderView)). named loaders c.args.name) c.self.view_is ∙ c.requires.unused)
    (search rules) (search rules)

pub invariant_of-self-in-Err : goal.invariant_of-self-in-Err
invariant_of-self-in-Err c = kept_same c.self.inside.slots c.put.new.self c.self.inside.first c.self.inside.count
    c.self.invariant c.in-Err.ensures.stays

pub returns-in-Ok-clause-stands : goal.returns-in-Ok-clause-stands
returns-in-Ok-clause-stands c = rw (← c.self.view_is) (new_rest c.self.inside.slots c.put.new.self c.args.name
    c.args.boxed.1 c.self.invariant.at_names
    (rw (← named_so c.args.name c.args.boxed c.requires.name_is) c.in-Ok.ensures.at_names))

pub returns-in-Err-clause-unchanged : goal.returns-in-Err-clause-unchanged
returns-in-Err-clause-unchanged c = rw (← c.self.view_is) (same_rest c.self.inside.slots c.put.new.self
    c.self.invariant.at_names (kept_same c.self.inside.slots c.put.new.self c.self.inside.first c.self.inside.count
    c.self.invariant c.in-Err.ensures.stays).at_names c.in-Err.ensures.stays)

use Rattle.ms_base.specs.declared.kind.Space.TheVariants.{NonClass, Class}
use Rattle.ms_loader.proofs.calls.ViewLemmas.{view_is_sound}
use Rattle.ms_loader.proofs.calls.LoaderAllocLemmas.{allocated}
use Rattle.ms_loader.proofs.RefusedLemmas.{block_refused}
use Rattle.ms_loader.proofs.loader.Loader.allocate.Goals as goal

pub invariant_of-self : goal.invariant_of-self
invariant_of-self g c =
    (allocated NonClass c.self.inside c.self.invariant c.args.name c.allocate_in.new.arena c.allocate_in.new.names
    c.allocate_in.ensures.allocates).loader

pub returns-in-NonClass-clause-allocates : goal.returns-in-NonClass-clause-allocates
returns-in-NonClass-clause-allocates g c =
    rw (c.in-NonClass.is, ← c.self.view_is)
    (allocated NonClass c.self.inside c.self.invariant c.args.name c.allocate_in.new.arena c.allocate_in.new.names
    c.allocate_in.ensures.allocates).allocates

pub returns-in-NonClass-clause-unchanged : goal.returns-in-NonClass-clause-unchanged
returns-in-NonClass-clause-unchanged g c =
    rw (← c.self.view_is)
    (allocated NonClass c.self.inside c.self.invariant c.args.name c.allocate_in.new.arena c.allocate_in.new.names
    c.allocate_in.ensures.allocates).unchanged

pub returns-in-NonClass-clause-sound : goal.returns-in-NonClass-clause-sound
returns-in-NonClass-clause-sound g c =
    view_is_sound _
    (allocated NonClass c.self.inside c.self.invariant c.args.name c.allocate_in.new.arena c.allocate_in.new.names
    c.allocate_in.ensures.allocates).loader

pub invariant_of-self-in-Class : goal.invariant_of-self-in-Class
invariant_of-self-in-Class g c =
    (allocated Class c.self.inside c.self.invariant c.args.name c.allocate_in-in-Class.new.arena
    c.allocate_in-in-Class.new.names
    c.allocate_in-in-Class.ensures.allocates).loader

pub returns-in-Class-clause-allocates : goal.returns-in-Class-clause-allocates
returns-in-Class-clause-allocates g c =
    rw (c.in-Class.is, ← c.self.view_is)
    (allocated Class c.self.inside c.self.invariant c.args.name c.allocate_in-in-Class.new.arena
    c.allocate_in-in-Class.new.names
    c.allocate_in-in-Class.ensures.allocates).allocates

pub returns-in-Class-clause-unchanged : goal.returns-in-Class-clause-unchanged
returns-in-Class-clause-unchanged g c =
    rw (← c.self.view_is)
    (allocated Class c.self.inside c.self.invariant c.args.name c.allocate_in-in-Class.new.arena
    c.allocate_in-in-Class.new.names
    c.allocate_in-in-Class.ensures.allocates).unchanged

pub returns-in-Class-clause-sound : goal.returns-in-Class-clause-sound
returns-in-Class-clause-sound g c =
    view_is_sound _
    (allocated Class c.self.inside c.self.invariant c.args.name c.allocate_in-in-Class.new.arena
    c.allocate_in-in-Class.new.names
    c.allocate_in-in-Class.ensures.allocates).loader

pub returns-in-NonClass-clause-refused : goal.returns-in-NonClass-clause-refused
returns-in-NonClass-clause-refused g c =
    rw (← c.self.view_is)
    (block_refused c.self.inside c.args.name c.args.words c.allocate_in.result c.allocate_in.ensures.refused)

pub returns-in-Class-clause-refused : goal.returns-in-Class-clause-refused
returns-in-Class-clause-refused g c =
    rw (← c.self.view_is)
    (block_refused c.self.inside c.args.name c.args.words c.allocate_in-in-Class.result
    c.allocate_in-in-Class.ensures.refused)

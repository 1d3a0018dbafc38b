-- A dead loader gives its last line, after which its name is free.
use Rattle.std.proofs.Common.{◌≡◌, ◌∙◌, ap, sym, ◌++◌, ◌∷◌, [], Some, false}
use Rattle.std.specs.Option.{option_map}
use Rattle.std.specs.Prelude.{slice_set}
use Rattle.ms_base.specs.declared.step.Step.TheVariants.{Unload}
use Rattle.ms_trace.specs.declared.trace.Command.TheVariants.{Step as Asks}
use Rattle.jvm_log.specs.Giving.{unloading}
use Rattle.jvm_log.specs.Known.{life_of, loaders_in}
use Rattle.jvm_log.specs.Waits.{acts_in, lines_in, names_in}
use Rattle.jvm_log.proofs.GivingLemmas.{adds_after, adds_whole}
use Rattle.jvm_log.proofs.HeldLemmas.{acts_added}
use Rattle.jvm_log.proofs.NameLemmas.{uses_given}
use Rattle.jvm_log.proofs.machine.Machine.bury.Goals as goal

pub returns-clause-lines : goal.returns-clause-lines
returns-clause-lines c =
    let lives : (loaders_in c.args.self.now).loader_at c.args.loader ≡ Some (life_of c.in-Some.dead) =
    sym (c.set_kind.ensures.loaders c.args.loader) ∙ ap (option_map life_of) (sym c.in-Some.ensures.value) in
    adds_after (unloading ((loaders_in c.args.self.now).loader_at c.args.loader)) (lines_in c.args.self.now)
    (lines_in c.set_kind.new.self) _ c.set_kind.ensures.lines
    (adds_whole c.set_kind.new.self.held.entries.items c.add.new.self.entries.items c.from.result
    (Asks (Unload c.in-Some.dead.name)) _ c.in_ok-add.ensures.added c.from.ensures (ap unloading lives))

pub returns-clause-names : goal.returns-clause-names
returns-clause-names c =
    let name = c.in-Some.dead.name in
    uses_given (acts_in c.args.self.now) (names_in c.args.self.now) _ _ name
    (acts_added c.set_kind.new.self.held.entries.items c.add.new.self.entries.items c.from.result (Asks (Unload name))
    c.in_ok-add.ensures.added c.from.ensures ∙ ap (λ acts. acts ++ (name, false) ∷ []) c.set_kind.ensures.acts)
    (c.give_back.ensures ∙ ap (λ names. slice_set names name false) c.set_kind.ensures.names)

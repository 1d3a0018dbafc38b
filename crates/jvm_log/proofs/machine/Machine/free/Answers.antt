-- A block is freed by the arena's loader, and that does nothing to names.
use Rattle.std.proofs.Common.{◌≡◌, ◌∙◌, Some, ap, sym, refl}
use Rattle.std.specs.Option.{option_map}
use Rattle.ms_base.specs.declared.step.Step.{Step}
use Rattle.ms_base.specs.declared.step.Step.TheVariants.{Free}
use Rattle.ms_trace.specs.declared.trace.Command.TheVariants.{Step as Asks}
use Rattle.jvm_log.specs.Known.{known_in, life_of, owner_of}
use Rattle.jvm_log.proofs.GivingLemmas.{adds_whole, freeing_is, owner_is}
use Rattle.jvm_log.proofs.HeldLemmas.{acts_quiet}
use Rattle.jvm_log.proofs.machine.Machine.free.Goals as goal

pub returns-clause-lines : goal.returns-clause-lines
returns-clause-lines c =
    let known = known_in c.args.self.now in
    let owner = c.in-Some-get.owner.now in
    let block = c.in-Some-remove.block in
    let owns : owner_of known.loaders c.args.arena ≡ Some (life_of owner) =
    owner_is known.loaders c.args.arena c.in-Some.loader.now (Some (life_of owner)) (sym c.in-Some.ensures.value)
    (ap (option_map life_of) (sym c.in-Some-get.ensures.value)) in
    adds_whole c.args.self.now.held.entries.items c.add.new.self.entries.items c.from.result
    (Asks (Free owner.name block.number)) _
    c.in_ok-add.ensures.added (c.from.ensures ∙ ap (λ (step : Step). Asks step) c.in-Some-freeing.ensures.step)
    (freeing_is _ _ (life_of owner) block owns (sym c.in-Some-remove.ensures.value) c.in-Some-freeing.ensures.own)

pub returns-clause-acts : goal.returns-clause-acts
returns-clause-acts c =
    acts_quiet c.args.self.now.held.entries.items c.add.new.self.entries.items c.from.result
    (Asks (Free c.in-Some-get.owner.now.name c.in-Some-remove.block.number)) c.in_ok-add.ensures.added
    (c.from.ensures ∙ ap (λ (step : Step). Asks step) c.in-Some-freeing.ensures.step) refl

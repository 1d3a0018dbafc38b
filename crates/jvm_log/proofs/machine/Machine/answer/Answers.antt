-- The answer gives what the thread asked for.
use Rattle.std.proofs.Common.{◌≡◌, ◌∙◌, Option, Some, ap, sym, rules}
use Rattle.std.specs.Option.{option_map}
use Rattle.ms_base.specs.declared.step.Step.{Step}
use Rattle.ms_trace.specs.declared.trace.Command.TheVariants.{Step as Asks}
use Rattle.jvm_log.specs.declared.loader.Request.{Request}
use Rattle.jvm_log.specs.Giving.{given}
use Rattle.jvm_log.specs.Known.{known_in, life_of, owner_of}
use Rattle.jvm_log.specs.Parts.{◌>>=◌}
use Rattle.jvm_log.proofs.GivingLemmas.{allocating_full, allocating_is, owner_is, puts_some}
use Rattle.jvm_log.proofs.HeldLemmas.{acts_given_up}
use Rattle.jvm_log.proofs.KnownLemmas.{counts_none}
use Rattle.jvm_log.proofs.machine.Machine.answer.Goals as goal

pub returns-clause-lines : goal.returns-clause-lines
returns-clause-lines c =
    let known = known_in c.args.self.now in
    let request = c.in-Some.request in
    let life = life_of c.in-Some-get_mut.owner.now in
    let asked : known.request_of c.args.thread ≡ Some request = sym c.in-Some.ensures.value in
    let arena : known.loaders.owner_at c.args.arena ≡ Some c.in-Some-copied.loader = search rules in
    let owns : owner_of known.loaders c.args.arena ≡ Some life =
    owner_is known.loaders c.args.arena c.in-Some-copied.loader (Some life) arena
    (ap (option_map life_of) (sym c.in-Some-get_mut.ensures.value)) in
    puts_some (known.request_of c.args.thread >>= (λ (r : Request). r.line)) request.line _ c.args.self.now.held
    c.put.new.self.entries.items (record { command = Asks c.allocating.result; address = c.unwrap_or.result })
    (allocating_is c.args.space _ _ request life asked owns c.in-Some-next_block.ensures.some
    ∙ ap (λ (step : Step). Some (Asks step)) (sym c.allocating.ensures))
    (ap (λ (r : Option Request). r >>= (λ (its : Request). its.line)) asked) c.in_ok-put.ensures.in_place

pub returns-in_default-next_block-clause-loaders : goal.returns-in_default-next_block-clause-loaders
returns-in_default-next_block-clause-loaders c =
    let known = known_in c.args.self.now in
    let life = life_of c.in-Some-get_mut.owner.now in
    let arena : known.loaders.owner_at c.args.arena ≡ Some c.in-Some-copied.loader = search rules in
    let owns : owner_of known.loaders c.args.arena ≡ Some life =
    owner_is known.loaders c.args.arena c.in-Some-copied.loader (Some life) arena
    (ap (option_map life_of) (sym c.in-Some-get_mut.ensures.value)) in
    counts_none c.args.arena (given c.args.thread c.args.arena c.args.space known) known.loaders _
    (allocating_full c.args.space _ _ c.in-Some.request life (sym c.in-Some.ensures.value) owns (search rules)) (search rules)

pub returns-in_default-copied-clause-acts : goal.returns-in_default-copied-clause-acts
returns-in_default-copied-clause-acts c = acts_given_up c.in-Some.request.line c.args.self.now.held _ c.abandon.ensures.lines

pub returns-in_default-get_mut-clause-acts : goal.returns-in_default-get_mut-clause-acts
returns-in_default-get_mut-clause-acts c = acts_given_up c.in-Some.request.line c.args.self.now.held _ c.abandon-in_default-get_mut.ensures.lines

pub returns-in_default-next_block-clause-acts : goal.returns-in_default-next_block-clause-acts
returns-in_default-next_block-clause-acts c = acts_given_up c.in-Some.request.line c.args.self.now.held _ c.abandon-in_default-next_block.ensures.lines

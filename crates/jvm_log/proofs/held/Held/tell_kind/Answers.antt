-- A loader's kind does nothing to its name, nor to what the line says besides.
use Rattle.std.proofs.Common.{◌-◌, sym, ap, ◌∙◌}
use Rattle.std.specs.Prelude.{flat_map}
use Rattle.jvm_log.specs.declared.held.Entry.{Entry}
use Rattle.jvm_log.specs.declared.held.Entry.TheVariants.{Whole}
use Rattle.jvm_log.specs.declared.placed.Placed.{Placed}
use Rattle.jvm_log.specs.Giving.{bare}
use Rattle.jvm_log.specs.Held.{known_of}
use Rattle.jvm_log.specs.NameActs.{name_acts}
use Rattle.jvm_log.proofs.HeldLemmas.{acts-set, bare-set}
use Rattle.jvm_log.proofs.held.Held.tell_kind.Goals as goal

pub returns-in-Born-clause-acts : goal.returns-in-Born-clause-acts
returns-in-Born-clause-acts c =
    acts-set c.args.self.now.entries.items (c.args.number - c.args.self.now.first) c.in-Some.entry.now (Whole c.opening.result)
    c.in-Some.ensures.value
    (ap (λ line. flat_map name_acts (known_of (Whole line))) c.opening.ensures
    ∙ sym (ap (λ entry. flat_map name_acts (known_of entry)) c.in-Born.is))

pub returns-in-Born-clause-lines : goal.returns-in-Born-clause-lines
returns-in-Born-clause-lines c =
    bare-set c.args.self.now.entries.items (c.args.number - c.args.self.now.first) c.in-Some.entry.now (Whole c.opening.result)
    c.in-Some.ensures.value
    (ap (λ (line : Placed). bare (Whole line)) c.opening.ensures ∙ sym (ap (λ (entry : Entry). bare entry) c.in-Born.is))

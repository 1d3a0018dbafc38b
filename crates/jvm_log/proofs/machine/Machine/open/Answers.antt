-- A loader is opened under a name that was free.
use Rattle.std.proofs.Common.{◌∙◌}
use Rattle.jvm_log.specs.Waits.{acts_in, lines_in, names_in}
use Rattle.jvm_log.proofs.GivingLemmas.{adds_born, opens_as}
use Rattle.jvm_log.proofs.HeldLemmas.{acts_born}
use Rattle.jvm_log.proofs.NameLemmas.{uses_taken}
use Rattle.jvm_log.proofs.machine.Machine.open.Goals as goal

pub returns-then-birth-eq0-clause-lines : goal.returns-then-birth-eq0-clause-lines
returns-then-birth-eq0-clause-lines c =
    opens_as (names_in c.set_kind.new.self) (lines_in c.args.self.now) (lines_in c.set_kind.new.self) c.in-Some.name
    (c.set_kind.ensures.lines
    ∙ adds_born c.args.self.now.held.entries.items c.open.new.self.entries.items c.in-Some.name c.in_ok-line.ensures.added)

pub returns-then-birth-eq0-clause-names : goal.returns-then-birth-eq0-clause-names
returns-then-birth-eq0-clause-names c =
    uses_taken (acts_in c.args.self.now) (names_in c.args.self.now) _ _ c.in-Some.name
    (c.set_kind.ensures.acts
    ∙ acts_born c.args.self.now.held.entries.items c.open.new.self.entries.items c.in-Some.name c.in_ok-line.ensures.added)
    c.in-Some.ensures.free (c.set_kind.ensures.names ∙ c.in-Some.ensures.taken)

pub returns-else-birth-eq0-clause-lines : goal.returns-else-birth-eq0-clause-lines
returns-else-birth-eq0-clause-lines c =
    opens_as _ (lines_in c.args.self.now) _ c.in-Some.name
    (adds_born c.args.self.now.held.entries.items c.open.new.self.entries.items c.in-Some.name c.in_ok-line.ensures.added)

pub returns-else-birth-eq0-clause-names : goal.returns-else-birth-eq0-clause-names
returns-else-birth-eq0-clause-names c =
    uses_taken (acts_in c.args.self.now) (names_in c.args.self.now) _ _ c.in-Some.name
    (acts_born c.args.self.now.held.entries.items c.open.new.self.entries.items c.in-Some.name c.in_ok-line.ensures.added)
    c.in-Some.ensures.free c.in-Some.ensures.taken

-- A birth, or a death that the log lacks, and a birth.
use Rattle.std.proofs.Common.{◌∙◌}
use Rattle.jvm_log.specs.Known.{known_in}
use Rattle.jvm_log.specs.Waits.{lines_in, names_in}
use Rattle.jvm_log.proofs.GivingLemmas.{bears_after}
use Rattle.jvm_log.proofs.NameLemmas.{uses_both}
use Rattle.jvm_log.proofs.machine.Machine.bear.Goals as goal

pub returns-clause-lines : goal.returns-clause-lines
returns-clause-lines c =
    bears_after c.args.loader (known_in c.args.self.now) (names_in c.open-2.new.self) (lines_in c.bury.new.self)
    (lines_in c.open-2.new.self) c.in_ok-bury.ensures.lines c.in_ok-open.ensures.lines

pub returns-in_err-open-clause-blocks : goal.returns-in_err-open-clause-blocks
returns-in_err-open-clause-blocks c = c.open-2.ensures.blocks ∙ c.bury.ensures.blocks

pub returns-clause-blocks : goal.returns-clause-blocks
returns-clause-blocks c = c.open-2.ensures.blocks ∙ c.bury.ensures.blocks

pub returns-clause-names : goal.returns-clause-names
returns-clause-names c =
    uses_both c.args.self.now c.bury.new.self c.open-2.new.self c.in_ok-bury.ensures.names c.in_ok-open.ensures.names

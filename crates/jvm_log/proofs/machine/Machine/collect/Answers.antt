-- A report does nothing to names.
use Rattle.std.proofs.Common.{refl, ap}
use Rattle.ms_trace.specs.declared.trace.Command.TheVariants.{Report}
use Rattle.jvm_log.specs.Giving.{reporting}
use Rattle.jvm_log.proofs.GivingLemmas.{adds_whole}
use Rattle.jvm_log.proofs.HeldLemmas.{acts_quiet}
use Rattle.jvm_log.proofs.machine.Machine.collect.Goals as goal

pub returns-in_ok-add-clause-lines : goal.returns-in_ok-add-clause-lines
returns-in_ok-add-clause-lines c =
    adds_whole c.args.self.now.held.entries.items c.add.new.self.entries.items c.from.result Report
    (reporting c.args.self.now.reports) c.in_ok-add.ensures.added c.from.ensures (ap reporting c.if-self.true)

pub returns-in_ok-add-clause-acts : goal.returns-in_ok-add-clause-acts
returns-in_ok-add-clause-acts c =
    acts_quiet c.args.self.now.held.entries.items c.add.new.self.entries.items c.from.result Report c.in_ok-add.ensures.added
    c.from.ensures refl

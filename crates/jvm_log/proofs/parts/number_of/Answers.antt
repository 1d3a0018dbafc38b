-- A field without a fault is the number that it spells.
use Rattle.std.proofs.Common.{arith}
use Rattle.jvm_log.proofs.PartLemmas.{number_read, number_unread}
use Rattle.jvm_log.proofs.parts.number_of.Goals as goal

pub returns-in-Ok : goal.returns-in-Ok
returns-in-Ok c =
    number_read c.args.digits.now c.in-Ok.number c.in-Ok.ensures.fault c.in-Ok.ensures.number (omega arith)

pub returns-in-Err : goal.returns-in-Err
returns-in-Err c = number_unread c.args.digits.now c.in-Err.field-0 c.in-Err.ensures.fault

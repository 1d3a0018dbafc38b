-- The line that is held back longest.
use Rattle.std.proofs.Common.{refl}
use Rattle.jvm_log.proofs.FollowingLemmas.{hands_next, hands_no_line}
use Rattle.jvm_log.proofs.machine.Machine.next_line.Goals as goal

pub returns-clause-gives : goal.returns-clause-gives
returns-clause-gives c =
    hands_next c.next.result c.args.self.now (record c.args.self.now { held = c.next.new.self }) refl c.next.ensures.first

pub returns-clause-none : goal.returns-clause-none
returns-clause-none c =
    hands_no_line c.next.result c.args.self.now (record c.args.self.now { held = c.next.new.self }) refl c.next.ensures.none

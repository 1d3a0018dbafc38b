-- Each entry gives one line at most.
use Rattle.std.proofs.Common.{◌≤◌, subst, sym, length}
use Rattle.jvm_log.specs.Held.{waiting}
use Rattle.jvm_log.proofs.FollowingLemmas.{few_wait}
use Rattle.jvm_log.proofs.machine.Machine.held_back.Goals as goal

pub returns-clause-waiting : goal.returns-clause-waiting
returns-clause-waiting c =
    subst (λ count. length (waiting c.args.self.now.held.entries.items) ≤ count) (sym c.len.ensures)
    (few_wait c.args.self.now.held.entries.items)

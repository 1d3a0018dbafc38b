use Rattle.std.proofs.Common.{[], List, subst, sym}
use Rattle.jvm_log.specs.declared.placed.Placed.{Placed}
use Rattle.log_session.specs.Joining.{IsJoined, none}
use Rattle.log_session.proofs.joining.joined.Goals as goal

pub loop-at-init : goal.loop-at-init
loop-at-init c = subst (λ (items : List Placed). IsJoined c.args.most [] items) (sym c.in_ok-joined.ensures.items) none

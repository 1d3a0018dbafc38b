use Rattle.std.proofs.Common.{◌≡◌, ◌-◌, suc, arith}
use Rattle.log_session.specs.Joining.{has}
use Rattle.log_session.proofs.JoiningLemmas.{turn}
use Rattle.log_session.proofs.joining.forget_freed.Goals as goal

pub loop-at-preserved : goal.loop-at-preserved
loop-at-preserved c =
    let at = c.loop-at.at in
    let next : at ≡ suc (at - 1) = omega (arith, c.loop-at-test.true) in
    let all = turn c.args.lines.now.items c.loop-at.lines.items at (at - 1) c.index.result.now c.in_ok-lines.field-0
    (has c.loop-at.freed) (has c.forget.new.freed) next c.loop-at.invariant.within c.loop-at.invariant.lines
    c.loop-at.invariant.freed c.index.ensures c.in_ok-lines.ensures.line c.in_ok-lines.ensures.freed in
    record { lines = all.0; within = all.1; freed = all.2 }

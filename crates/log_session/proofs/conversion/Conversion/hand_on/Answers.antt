-- A turn hands on the line that the machine gives, and the last finds that it gives none.
use Rattle.std.proofs.Common.{◌≡◌, ◌∙◌, [], ◌∷◌, ap, arith, length, refl}
use Rattle.jvm_log.specs.declared.machine.Machine.{Machine}
use Rattle.jvm_log.specs.Known.{known_in, waits}
use Rattle.jvm_log.specs.Waits.{is_closed}
use Rattle.jvm_log.proofs.FollowingLemmas.{fewer_held, gives_first}
use Rattle.log_session.specs.UnderWay.{held_in}
use Rattle.log_session.proofs.UnderWayLemmas.{gives, goes_on, stays}
use Rattle.log_session.proofs.conversion.Conversion.hand_on.Goals as goal

pub loop-given-preserved : goal.loop-given-preserved
loop-given-preserved g c =
    let start = g.W.Write.contents c.args.output.now in
    let before = g.W.Write.contents c.loop-given.output in
    let after = g.W.Write.contents c.hand_on_line.new.output in
    let on = c.in_ok-hand_on_line.ensures in
    let gave = c.in-Some.ensures.gives in
    let same : length (waits (known_in c.hand_on_line.new.self.machine)) ≡ length (waits (known_in c.next_line.new.self)) =
    ap (λ (m : Machine). length (waits (known_in m))) on.machine in
    let left : length (held_in c.hand_on_line.new.self).entries.items ≡ length (known_in c.next_line.new.self).held.entries.items =
    ap (λ (m : Machine). length (known_in m).held.entries.items) on.machine in record {
      comes =
          goes_on [] [] (c.args.self.now, start) (c.loop-given.self, before) (c.hand_on_line.new.self, after) c.loop-given.invariant.comes
          (gives c.loop-given.self (record c.loop-given.self { machine = c.next_line.new.self }) (c.hand_on_line.new.self, after) before
          c.in-Some.line.command gave refl refl refl on);
      closed = ap (λ (m : Machine). is_closed m) on.machine ∙ c.next_line.ensures.closed ∙ c.loop-given.invariant.closed;
      held =
          omega (
            arith,
            left,
            fewer_held c.in-Some.line.command (known_in c.loop-given.self.machine) (known_in c.next_line.new.self) gave,
            c.loop-given.invariant.held,
          );
      fewer =
          omega (
            arith,
            same,
            ap length (gives_first (c.in-Some.line.command ∷ []) (known_in c.loop-given.self.machine)
                (known_in c.next_line.new.self) gave),
            c.loop-given.invariant.fewer,
          );
    }

pub returns-in_default-clause-comes : goal.returns-in_default-clause-comes
returns-in_default-clause-comes g c =
    let before = g.W.Write.contents c.loop-given.output in
    goes_on [] [] (c.args.self.now, g.W.Write.contents c.args.output.now) (c.loop-given.self, before) _ c.loop-given.invariant.comes
    (stays c.loop-given.self (record c.loop-given.self { machine = c.next_line.new.self }) before c.in_default.ensures.none refl refl refl)

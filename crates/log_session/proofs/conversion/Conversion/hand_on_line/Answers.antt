-- A line goes out, or is kept to be joined.
use Rattle.std.proofs.Common.{refl}
use Rattle.log_session.proofs.TraceLemmas.{ok_map}
use Rattle.log_session.proofs.UnderWayLemmas.{hands_kept, hands_out}
use Rattle.log_session.proofs.conversion.Conversion.hand_on_line.Goals as goal

pub returns-then-is_none : goal.returns-then-is_none
returns-then-is_none g c =
    ok_map c.add.result _ _
    (λ lines.
    hands_out c.args.self.now c.number.new.self c.add.new.self (g.W.Write.contents c.args.output.now)
    (g.W.Write.contents c.add.new.output) c.args.line.command c.in_ok-number.ensures c.if-is_none.ensures lines)
    c.add.ensures.lines

pub returns-in-Ok : goal.returns-in-Ok
returns-in-Ok g c =
    hands_kept c.args.self.now c.number.new.self (record c.number.new.self { kept = c.push.new.self }) (g.W.Write.contents c.args.output.now)
    c.args.line c.in_ok-number.ensures refl c.if-is_none.ensures c.in-Ok.ensures.items

-- Nothing is to be joined, or what is kept is, and goes out.
use Rattle.std.proofs.Common.{◌≡◌, ℕ, List, Option, Some, ◌++◌, rules, subst}
use Rattle.ms_trace.specs.declared.trace.Command.{Command}
use Rattle.jvm_log.specs.declared.placed.Placed.{Placed}
use Rattle.log_session.specs.Trace.{WritesLines, commands_of}
use Rattle.log_session.proofs.TraceLemmas.{ok_map}
use Rattle.log_session.proofs.EndedLemmas.{ends, ends_joined}
use Rattle.log_session.proofs.UnderWayLemmas.{none_by}
use Rattle.log_session.proofs.conversion.Conversion.hand_on_kept.Goals as goal

pub returns-in_default-clause-ended : goal.returns-in_default-clause-ended
returns-in_default-clause-ended g c = λ start said come all.
    ends start (g.W.Write.contents c.args.output.now) said c.args.self.now
    (none_by c.args.self.now.options.merge c.in_default.not-Some) come all

pub returns-clause-ended : goal.returns-clause-ended
returns-clause-ended g c =
    let some : c.args.self.now.options.merge ≡ Some c.in-Some.most = search rules in
    ok_map c.add_all.result _ _
    (λ writes start said come all.
    ends_joined start (g.W.Write.contents c.args.output.now) (g.W.Write.contents c.add_all.new.output) said c.args.self.now c.in-Some.most
    c.join.new.lines.items c.add_all.new.self.text.items some c.in_ok-join.ensures
    (subst (λ (lines : List Placed). (start : Option (List ℕ)) (commands : List Command)
    → WritesLines start (g.W.Write.contents c.args.output.now) c.args.self.now.text.text.items commands
    → WritesLines start (g.W.Write.contents c.add_all.new.output) c.add_all.new.self.text.items (commands ++ commands_of lines))
    c.deref.ensures.value writes)
    come all)
    c.add_all.ensures

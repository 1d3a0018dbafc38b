use Rattle.std.proofs.Common.{sym}
use Rattle.log_session.proofs.JoiningLemmas.{end_block, end_none, end_unknown}
use Rattle.log_session.proofs.joining.end_of.Goals as goal

pub returns-in-Some : goal.returns-in-Some
returns-in-Some c =
    let block = c.in-Some.block in
    end_block c.args.line.command block.space block.loader block.block block.words c.args.line.address c.max.result
    c.in-Some.ensures.some c.if-line-ne0.true c.max.ensures

pub returns-in_default : goal.returns-in_default
returns-in_default c = sym (end_unknown c.args.line.command c.args.line.address c.if-line-ne0.false)

pub returns-in_default-2 : goal.returns-in_default-2
returns-in_default-2 c = sym (end_none c.args.line.command c.args.line.address c.in_default.ensures.none)

use Rattle.std.proofs.Common.{◌∙◌, sym}
use Rattle.log_session.specs.Joining.{has}
use Rattle.log_session.proofs.JoiningLemmas.{forgot_block, forgot_freed, forgot_none, kept_block, named_block, named_freed, named_none}
use Rattle.log_session.proofs.joining.forget.Goals as goal

pub returns-in-Some-clause-line : goal.returns-in-Some-clause-line
returns-in-Some-clause-line c =
    forgot_freed (has c.args.freed.now) c.args.line c.in-Some.block.0 c.in-Some.block.1 c.in-Some.ensures.some

pub returns-in-Some-clause-freed : goal.returns-in-Some-clause-freed
returns-in-Some-clause-freed c = λ loader block.
    c.in_ok-insert.ensures.updates.0 (loader, block)
    ∙ sym (named_freed c.args.line.command c.in-Some.block.0 c.in-Some.block.1 loader block _ c.in-Some.ensures.some)

pub returns-in-Some-block_of-clause-line : goal.returns-in-Some-block_of-clause-line
returns-in-Some-block_of-clause-line c =
    let asked = c.in-Some-block_of.asked in
    forgot_block (has c.args.freed.now) c.args.line asked.space asked.loader asked.block asked.words c.in-Some-block_of.ensures.some
    (sym c.remove.ensures.test ∙ c.if-remove.true)

pub returns-in-Some-block_of-clause-freed : goal.returns-in-Some-block_of-clause-freed
returns-in-Some-block_of-clause-freed c = λ loader block.
    let asked = c.in-Some-block_of.asked in
    c.remove.ensures.updates.0 (loader, block)
    ∙ sym (named_block c.args.line.command asked.space asked.loader asked.block asked.words loader block _
    c.in-Some-block_of.ensures.some)

pub returns-in_default-block_of-clause-line : goal.returns-in_default-block_of-clause-line
returns-in_default-block_of-clause-line c =
    let asked = c.in-Some-block_of.asked in
    kept_block (has c.args.freed.now) c.args.line asked.space asked.loader asked.block asked.words c.in-Some-block_of.ensures.some
    (sym c.remove.ensures.test ∙ c.if-remove.false)

pub returns-in_default-block_of-clause-freed : goal.returns-in_default-block_of-clause-freed
returns-in_default-block_of-clause-freed c = λ loader block.
    let asked = c.in-Some-block_of.asked in
    c.remove.ensures.updates.0 (loader, block)
    ∙ sym (named_block c.args.line.command asked.space asked.loader asked.block asked.words loader block _
    c.in-Some-block_of.ensures.some)

pub returns-in_default-block_of-2-clause-line : goal.returns-in_default-block_of-2-clause-line
returns-in_default-block_of-2-clause-line c =
    forgot_none (has c.args.freed.now) c.args.line c.in_default-block_of.ensures.none

pub returns-in_default-block_of-2-clause-freed : goal.returns-in_default-block_of-2-clause-freed
returns-in_default-block_of-2-clause-freed c = λ loader block.
    sym (named_none c.args.line.command loader block _ c.in_default-block_of.ensures.none c.in_default.ensures.none)

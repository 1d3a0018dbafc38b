-- What an event asks, between steps that change no line.
use Rattle.std.proofs.Common.{ap}
use Rattle.jvm_log.specs.Waits.{lines_in}
use Rattle.jvm_log.proofs.NameLemmas.{uses_both, uses_quiet, uses_shortened}
use Rattle.jvm_log.proofs.TakingLemmas.{blocks_between, lines_between, loaders_between, requests_between}
use Rattle.jvm_log.proofs.machine.Machine.take_in.Goals as goal

pub returns-clause-lines : goal.returns-clause-lines
returns-clause-lines c =
    lines_between c.args.said c.args.self.now c.begin-late.new.self c.heed.new.self c.shorten.new.self
    c.begin-late.ensures.rest c.shorten.ensures.names c.shorten.ensures.lines c.shorten.ensures.fixed c.heed.ensures.fixed
    c.in_ok-trouble.ensures.lines

pub returns-clause-requests : goal.returns-clause-requests
returns-clause-requests c =
    requests_between c.args.said c.args.self.now c.begin-late.new.self c.heed.new.self c.shorten.new.self
    c.begin-late.ensures.rest c.shorten.ensures.rest c.in_ok-trouble.ensures.requests

pub returns-clause-loaders : goal.returns-clause-loaders
returns-clause-loaders c =
    loaders_between c.args.said c.args.self.now c.begin-late.new.self c.heed.new.self c.shorten.new.self
    c.begin-late.ensures.rest c.shorten.ensures.rest c.in_ok-trouble.ensures.loaders

pub returns-clause-blocks : goal.returns-clause-blocks
returns-clause-blocks c =
    blocks_between c.args.said c.args.self.now c.begin-late.new.self c.heed.new.self c.shorten.new.self
    c.begin-late.ensures.rest c.shorten.ensures.rest c.in_ok-trouble.ensures.blocks

pub returns-clause-names : goal.returns-clause-names
returns-clause-names c =
    uses_both c.args.self.now c.heed.new.self c.shorten.new.self
    (uses_both c.args.self.now c.begin-late.new.self c.heed.new.self
    (uses_quiet c.args.self.now c.begin-late.new.self (ap lines_in c.begin-late.ensures.rest) c.begin-late.ensures.names)
    c.in_ok-trouble.ensures.names)
    (uses_shortened c.heed.new.self c.shorten.new.self c.shorten.ensures.lines c.shorten.ensures.names)

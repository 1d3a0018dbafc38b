-- The options that were asked for are those of the session.
use Rattle.std.proofs.Common.{inr}
use Rattle.log_session.proofs.starting.start.Goals as goal

pub returns-in-Ok-clause-trace : goal.returns-in-Ok-clause-trace
returns-in-Ok-clause-trace g c = λ well. inr (c.in-Ok.options, c.in-Ok.ensures.asked, c.session.ensures.trace well)

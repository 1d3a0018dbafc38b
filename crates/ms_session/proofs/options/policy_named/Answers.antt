use Rattle.std.proofs.Common.{rules}
use Rattle.ms_session.proofs.options.policy_named.Goals as goal

pub returns-in-none-clause-none : goal.returns-in-none-clause-none
returns-in-none-clause-none c = search rules

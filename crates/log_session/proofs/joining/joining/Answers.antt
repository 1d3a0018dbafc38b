use Rattle.log_session.proofs.JoiningLemmas.{none_meets}
use Rattle.log_session.proofs.joining.joining.Goals as goal

pub returns-clause-none : goal.returns-clause-none
returns-clause-none c = none_meets c.args.most c.args.last c.args.line c.both.result c.both.ensures.none

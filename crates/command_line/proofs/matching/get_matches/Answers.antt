use Rattle.clap.specs.Words.{app_of, kind_of}
use Rattle.command_line.proofs.ToldLemmas.{first_is_shown}
use Rattle.command_line.proofs.matching.get_matches.Goals as goal

pub returns-in-Ok-clause-found : goal.returns-in-Ok-clause-found
returns-in-Ok-clause-found g c = λ simple. (c.in-Ok.ensures.matches simple).0

pub returns-in-Err-clause-told : goal.returns-in-Err-clause-told
returns-in-Err-clause-told g c = λ free told.
    first_is_shown (app_of c.args.command) _ (kind_of c.in-Err.error) (c.reason_of.ensures.told told)
    (c.in-Err.ensures.kinds free)

pub returns-in-Err-clause-usage : goal.returns-in-Err-clause-usage
returns-in-Err-clause-usage g c = λ usage taken. c.reason_of.ensures.usage usage (c.in-Err.ensures.passes taken)

use Rattle.std.proofs.Common.{rules}
use Rattle.ms_session.proofs.options.form_named.Goals as goal

pub returns-in-json-clause-json : goal.returns-in-json-clause-json
returns-in-json-clause-json c = search rules

-- An answer that is put is pushed.
use Rattle.ms_json.proofs.document.DocumentAnswerSink.put.Goals as goal

pub returns : goal.returns
returns c = c.push.ensures

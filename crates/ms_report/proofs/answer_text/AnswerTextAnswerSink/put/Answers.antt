-- An answer that is put is pushed.
use Rattle.ms_report.proofs.answer_text.AnswerTextAnswerSink.put.Goals as goal

pub returns : goal.returns
returns c = c.push.ensures.told

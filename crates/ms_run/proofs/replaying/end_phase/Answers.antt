-- The words in use that are told are those that the run counted.
use Rattle.ms_run.proofs.replaying.end_phase.Goals as goal

pub answer_between-requires-clause-used : goal.answer_between-requires-clause-used
answer_between-requires-clause-used g c = c.requires.used

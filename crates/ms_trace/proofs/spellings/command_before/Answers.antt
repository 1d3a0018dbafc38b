-- A text that ends with a newline has a first byte.
use Rattle.ms_trace.proofs.EndLemmas.{ended_some}
use Rattle.ms_trace.proofs.spellings.command_before.Goals as goal

pub bounds-text-0 : goal.bounds-text-0
bounds-text-0 c = ended_some c.args.text.now c.requires

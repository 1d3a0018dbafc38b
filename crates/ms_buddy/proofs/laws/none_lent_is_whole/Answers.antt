-- The walk stops at the root.
use Rattle.ms_buddy.proofs.FreeLeafLemmas.{free_of-none}
use Rattle.ms_buddy.proofs.laws.none_lent_is_whole.Goals as goal

pub returns : goal.returns
returns c = free_of-none

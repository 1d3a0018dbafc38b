use Rattle.std.proofs.Common.{rules}
use Rattle.ms_blocks.proofs.free_blocks.FreeBlocks.new.Goals as goal

pub invariant_of-result : goal.invariant_of-result
invariant_of-result g c = search rules

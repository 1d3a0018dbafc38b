use Rattle.std.proofs.Common.{rules}
use Rattle.ms_pool.proofs.lending.chunk_at.Goals as goal

pub returns : goal.returns
returns c = search rules

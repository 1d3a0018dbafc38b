use Rattle.std.proofs.Common.{rules}
use Rattle.ms_commit.proofs.nodes.Nodes.is_committed.Goals as goal

pub returns : goal.returns
returns c = search rules

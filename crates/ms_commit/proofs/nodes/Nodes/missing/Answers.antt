use Rattle.std.proofs.Common.{arith}
use Rattle.ms_commit.proofs.SetLemmas.{count_missing-within}
use Rattle.ms_commit.proofs.KeepingLemmas.{need_is_missing}
use Rattle.ms_commit.proofs.nodes.Nodes.missing.Goals as goal

pub overflow_sub-result : goal.overflow_sub-result
overflow_sub-result c =
    omega (arith, c.count.ensures, count_missing-within c.self.inside.granules c.args.first c.args.count)

pub returns : goal.returns
returns c =
    need_is_missing c.self.inside c.args.self.now c.args.first c.args.count c.count.result c.self.view_is
    c.count.ensures

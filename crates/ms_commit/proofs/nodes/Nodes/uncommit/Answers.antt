use Rattle.std.proofs.Common.{arith}
use Rattle.ms_commit.proofs.KeepingLemmas.{range_is_kept, kept_without}
use Rattle.ms_commit.proofs.nodes.Nodes.uncommit.Goals as goal

pub remove_range-present-requires : goal.remove_range-present-requires
remove_range-present-requires c =
    (omega arith, range_is_kept _ _ _ _ c.self.invariant c.self.view_is c.requires (omega arith))

pub invariant_of-self : goal.invariant_of-self
invariant_of-self c =
    let after = c.remove_range-present.ensures in
    kept_without c.self.inside c.remove_range-present.new.self c.args.first c.args.count c.remove_range-present.result c.self.invariant
    after.members after.removed after.set.rising after.counted

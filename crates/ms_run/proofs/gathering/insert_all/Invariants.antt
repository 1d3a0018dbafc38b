use Rattle.std.proofs.Common.{ℕ, List, length}
use Rattle.ms_base.specs.Names.{AreNamed}
use Rattle.ms_loader.specs.Loader.{LoaderView}
use Rattle.ms_run.specs.Joined.{HaveOtherNames, IsJoined}
use Rattle.ms_run.proofs.gathering.insert_all.Given as goal

-- Whatever comes of the loaders so far and of those that are left comes of both lists; no name is
-- in both, and in each of them names rise.
abbrev pub invariant-loop-name : goal.invariant-loop-name
invariant-loop-name l =
    ((new : List (ℕ × LoaderView)) → IsJoined l.whole l.part new → IsJoined l.fn.whole l.fn.part new)
    × AreNamed l.part
    × HaveOtherNames l.whole l.part
    × AreNamed l.whole

abbrev pub decreases-loop-name : goal.decreases-loop-name
decreases-loop-name l = length l.part

use Rattle.std.proofs.Common.{◌≡◌, ◌<◌, ◌≤◌, ℕ, true}
use Rattle.ms_member.specs.Uncommitted.{is_uncommitted}
use Rattle.ms_member.proofs.granules.end_of_run.Given as goal

-- each so far is one
abbrev pub invariant-loop-index : goal.invariant-loop-index
invariant-loop-index g l =
    (l.fn.first ≤ l.index)
    × ((granule : ℕ) → l.fn.first ≤ granule → granule < l.index
    → is_uncommitted l.fn.was (g.G.Granules.commits l.fn.granules) granule ≡ true)

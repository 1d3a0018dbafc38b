use Rattle.std.proofs.Common.{◌≡◌, ◌<◌, ◌≤◌, ℕ, false}
use Rattle.ms_member.specs.Uncommitted.{is_uncommitted}
use Rattle.ms_member.proofs.granules.first_from.Given as goal

-- none so far is one
abbrev pub invariant-loop-index : goal.invariant-loop-index
invariant-loop-index g l =
    (l.fn.from ≤ l.index)
    × ((granule : ℕ) → l.fn.from ≤ granule → granule < l.index
    → is_uncommitted l.fn.was (g.G.Granules.commits l.fn.granules) granule ≡ false)

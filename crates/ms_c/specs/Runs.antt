-- Which granules a handle's system has committed, and the run of those that an allocation tells.
use Rattle.std.specs.Prelude.{ℕ, Bool, Some, None}
use Rattle.ms_base.specs.declared.kind.Space.{Space}
use Rattle.ms_loaders.specs.Committing.{TellsRun}
use Rattle.ms_loaders.specs.declared.system.committing.GranuleRun.{GranuleRun}
use Rattle.ms_member.specs.Uncommitted.{commits_in, commits_none}
use Rattle.ms_c.specs.Holding.{Held}

-- Which granules are committed; with no system none is.
abbrev pub commits_of : Held → ℕ → Bool
commits_of None = commits_none
commits_of (Some m) = commits_in m.committed m.class_committed

-- The run is that of the granules which became committed in a space of the handle's system.
abbrev pub TellsCommitted : Space → Held → GranuleRun → Held → Type 0
TellsCommitted space (Some before) run (Some after) = TellsRun space before run after
TellsCommitted space _ run _ = ⊥

use Rattle.std.proofs.Common.{◌≡◌, ◌++◌, drop, map}
use Rattle.ms_session.specs.Watching.{then_in}
use Rattle.ms_session.proofs.watching.loaders_of.Given as goal

-- The loaders so far, then those of the later rows.
abbrev pub invariant-loop-row : goal.invariant-loop-row
invariant-loop-row l = l.loaders.items ++ map then_in (drop l.row-index l.rows) ≡ map then_in l.rows

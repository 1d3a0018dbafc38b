use Rattle.std.proofs.Common.{◌≡◌, ◌-◌, true, length, take}
use Rattle.ms_pool.specs.Account.{has_chunk_at}
use Rattle.ms_pool.proofs.lending.index_of.Given as goal

-- One of those before the last ones starts there.
abbrev pub invariant-loop-later : goal.invariant-loop-later
invariant-loop-later l = has_chunk_at (take (length l.chunks - l.later) l.chunks) l.start ≡ true

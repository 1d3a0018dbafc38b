use Rattle.std.proofs.Common.{◌≡◌, ◌+◌, ◌≤◌, vec_len, vec_capacity}
use Rattle.ms_blocks.proofs.store.fill.Given as goal

-- So many forks are made, and there is room for all.
abbrev pub invariant-loop : goal.invariant-loop
invariant-loop g l = (vec_len l.spare ≡ vec_len l.fn.spare + l.counter)
    × (vec_len l.fn.spare + (l.more + l.count) ≤ vec_capacity l.spare)

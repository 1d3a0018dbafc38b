use Rattle.std.proofs.Common.{◌≡◌, ◌≤◌, replicate, [], vec_capacity, vec_len}
use Rattle.ms_pool.proofs.trees.whole_trees.Given as goal

-- So many trees so far, each with no leaf, and room for all.
abbrev pub invariant-loop : goal.invariant-loop
invariant-loop l =
    (l.trees.items ≡ replicate l.counter []) × (vec_len l.trees ≡ l.counter) × (l.count ≤ vec_capacity l.trees)

-- What is committed and reserved, beside what may be (the limits are this project's choice).
use Rattle.std.specs.Prelude.{ℕ, ◌+◌, List, length}
use Rattle.ms_base.specs.Policy.{granule_of}
use Rattle.ms_base.specs.State.{Limits}
use Rattle.ms_pool.specs.declared.pool.counts.LimitCounts.{LimitCounts}

-- The counts of reserved slots and of the committed granules of both spaces, each beside its limit.
abbrev pub limit_counts : List ℕ → List ℕ → List ℕ → Limits → LimitCounts
limit_counts slots committed class_committed limits = record {
  granules = length committed + length class_committed;
  granule_limit = limits.granules;
  granule_words = granule_of limits.policy;
  nodes = length slots;
  node_limit = limits.nodes;
  class_nodes = limits.class_nodes;
}

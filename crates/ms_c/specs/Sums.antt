-- C's sums and bits as those of the model.
use Rattle.std.specs.Prelude.{◌≡◌, ◌++◌, ℕ, ◌+◌, Bool, false, List, map, replicate, Some, None}
use Rattle.std.specs.List.{range_with_len}
use Rattle.ms_base.specs.Committed.{is_among}
use Rattle.ms_c.specs.Holding.{Held}
use Rattle.ms_base.specs.State.{Machine}
use Rattle.ms_base.specs.Totals.{SpaceSums, sums_of}
use Rattle.ms_c.specs.declared.totals.Sums.{Sums}
use Rattle.ms_c.specs.declared.totals.Totals.{Totals}
use Rattle.ms_c.specs.declared.totals.Counts.{Counts}
use Rattle.ms_c.specs.declared.totals.ArenaSums.{ArenaSums}
use Rattle.ms_c.specs.declared.totals.LoaderSums.{LoaderSums}
use Rattle.ms_c.specs.Kinds.{kind_number}
use Rattle.ms_pool.specs.LimitCounts.{limit_counts}
use Rattle.ms_pool.specs.declared.pool.counts.LimitCounts.{LimitCounts}
use Rattle.ms_arena.specs.declared.totals.ArenaTotals.{ArenaTotals}
use Rattle.ms_loaders.specs.LoaderSums.{AreLoaderSums}
use Rattle.ms_loaders.specs.declared.system.sums.LoaderTotals.{LoaderTotals}

abbrev pub sums_told : Sums → SpaceSums
sums_told sums = record {
  nodes = sums.nodes;
  reserved = sums.reserved;
  granules = sums.granules;
  committed = sums.committed;
  chunks = sums.chunks;
  capacity = sums.capacity;
  fronts = sums.fronts;
  used = sums.used;
  live = sums.live;
  free_blocks = sums.free_blocks;
  waste = sums.waste;
  held = sums.held;
  free = sums.free;
}

-- The totals are the sums over the machine.
pub record AreTotals (m : Machine) (totals : Totals) : Type 0 where
  pub loaders : totals.loaders ≡ (sums_of m).loaders
  pub space : sums_told totals.space ≡ (sums_of m).space
  pub class_space : sums_told totals.class_space ≡ (sums_of m).class_space

-- The granule at an index after the first is committed.
abbrev pub bit_at : Machine → ℕ → ℕ → Bool
bit_at m first index = is_among (m.committed ++ m.class_committed) (first + index)

-- Of so many granules from the first on, whether each is committed; with no system none is.
abbrev pub AreBits : Held → ℕ → ℕ → List Bool → Type 0
AreBits None first count bits = bits ≡ replicate count false
AreBits (Some m) first count bits = bits ≡ map (bit_at m first) (range_with_len 0 count)

-- The counts against the limits, in C's numbers.
abbrev pub counts_told : LimitCounts → Counts
counts_told counts = record {
  granules = counts.granules;
  granule_limit = counts.granule_limit;
  granule_words = counts.granule_words;
  nodes = counts.nodes;
  node_limit = counts.node_limit;
  class_nodes = counts.class_nodes;
}

-- The counts of a machine.
abbrev pub counts_of : Machine → Counts
counts_of m = counts_told (limit_counts m.slots m.committed m.class_committed m.limits)

-- The sums over an arena and those of a loader, in C's numbers.
abbrev pub arena_told : ArenaTotals → ArenaSums
arena_told totals = record {
  chunks = totals.chunks;
  capacity = totals.capacity;
  fronts = totals.fronts;
  used = totals.used;
  live = totals.live;
  free_blocks = totals.free_blocks;
  waste = totals.waste;
}

abbrev pub loader_told : LoaderTotals → LoaderSums
loader_told totals = record {
  kind = kind_number totals.kind;
  space = arena_told totals.space;
  class_space = arena_told totals.class_space;
}

-- What is told are the sums of the loader of that name.
pub record TellsLoader (m : Machine) (name : ℕ) (sums : LoaderSums) : Type 0 where
  pub totals : LoaderTotals
  pub are : AreLoaderSums m name totals
  pub told : sums ≡ loader_told totals

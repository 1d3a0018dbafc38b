-- What is gathered of loaders for the totals of a system, and what the totals are made of.
use Rattle.std.specs.Prelude.{◌≡◌, ℕ, ◌+◌, ◌-◌, ◌*◌, ◌<◌, ◌^◌, List, length, map}
use Rattle.std.specs.List.{sum_by}
use Rattle.std.specs.Map.{values_of}
use Rattle.ms_base.specs.declared.kind.Kind.{Kind}
use Rattle.ms_base.specs.declared.kind.Space.{Space}
use Rattle.ms_base.specs.declared.kind.Space.TheVariants.{NonClass, Class}
use Rattle.ms_base.specs.Part.{node_words}
use Rattle.ms_base.specs.State.{LoaderState, arena_of}
use Rattle.ms_base.specs.Totals.{LoaderRow, PoolSums, SpaceSums, used_of, kept_of, live_in, row_of}
use Rattle.ms_arena.specs.declared.totals.ArenaTotals.{ArenaTotals}
use Rattle.ms_answers.specs.Sums.{row_in}
use Rattle.ms_loaders.specs.declared.in_use.InUse.{InUse}
use Rattle.ms_loaders.specs.declared.collecting.Gathered.{Gathered}

-- How many chunks a loader holds in a space, and how many of their words are in use.
abbrev pub chunks_in : Space → LoaderState → ℕ
chunks_in space loader = length (arena_of space loader).chunks

abbrev pub used_in : Space → LoaderState → ℕ
used_in space loader = used_of (arena_of space loader)

abbrev pub kept_in : Space → LoaderState → ℕ
kept_in space loader = kept_of (arena_of space loader)

-- The loaders' chunks are few enough to be counted, and so are the words in use.
pub record AreFew (loaders : List (ℕ × LoaderState)) : Type 0 where
  pub chunks : (space : Space) → sum_by (chunks_in space) (values_of loaders) < 2 ^ 31
  pub words : (space : Space) → sum_by (used_in space) (values_of loaders) < 2 ^ 63

-- The sums are those over the loaders' arenas in a space.
pub record AreInUse (space : Space) (sums : InUse) (loaders : List (ℕ × LoaderState)) : Type 0 where
  pub chunks : sums.chunks ≡ sum_by (chunks_in space) (values_of loaders)
  pub used : sums.used ≡ sum_by (used_in space) (values_of loaders)
  pub live : sums.live ≡ sum_by (live_in space) (values_of loaders)
  pub free_blocks : sums.free_blocks ≡ sum_by (kept_in space) (values_of loaders)

-- So they are in both spaces, and there is a row for each loader.
pub record IsGathered (gathered : Gathered) (loaders : List (ℕ × LoaderState)) : Type 0 where
  pub space : AreInUse NonClass gathered.space loaders
  pub class_space : AreInUse Class gathered.class_space loaders
  pub rows : map row_in gathered.rows.items ≡ map row_of loaders

-- A loader's row, of the sums over its arenas.
abbrev pub row_made : ℕ → Kind → ArenaTotals → ArenaTotals → LoaderRow
row_made name kind arena class_arena = record {
  name = name;
  kind = kind;
  chunks = arena.chunks + class_arena.chunks;
  capacity = arena.capacity + class_arena.capacity;
  used = arena.used + class_arena.used;
  live = arena.live + class_arena.live;
}

-- The sums over a space, of those of the pool, whose granules have so many words, and of the
-- loaders.
abbrev pub space_made : PoolSums → ℕ → InUse → SpaceSums
space_made pool granule_words in_use = record {
  nodes = pool.nodes;
  reserved = pool.nodes * node_words;
  granules = pool.granules;
  committed = pool.granules * granule_words;
  chunks = in_use.chunks;
  capacity = pool.capacity;
  fronts = pool.fronts;
  used = in_use.used;
  live = in_use.live;
  free_blocks = in_use.free_blocks;
  waste = in_use.used - in_use.live - in_use.free_blocks;
  held = pool.lent;
  free = pool.free;
}

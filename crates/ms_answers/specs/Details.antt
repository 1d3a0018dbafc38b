-- The sums of each loader in each space and the maps of roots, as a full report tells them (after
-- HotSpot's VM.metaspace, with this project's numbers).
use Rattle.std.specs.Prelude.{ℕ, ◌-◌, ◌++◌, List, Option, length, map}
use Rattle.std.specs.Option.{option_map}
use Rattle.ms_base.specs.declared.kind.Kind.{Kind}
use Rattle.ms_base.specs.declared.kind.Space.{Space}
use Rattle.ms_base.specs.declared.kind.Space.TheVariants.{NonClass, Class}
use Rattle.ms_base.specs.State.{LoaderState, Machine, arena_of, pool_of}
use Rattle.ms_base.specs.Totals.{capacity_of, fronts_of, used_of, kept_of, live_in}
use Rattle.ms_pool.specs.Mapping.{RootCells, map_in, maps_of}
use Rattle.ms_arena.specs.declared.totals.ArenaTotals.{ArenaTotals}
use Rattle.ms_answers.specs.declared.details.LoaderDetails.{LoaderDetails}
use Rattle.ms_answers.specs.declared.details.Details.{Details}
use Rattle.ms_answers.specs.declared.totals.Totals.{Totals}

-- The sums over one arena: its chunks, their words and those of their fronts, and the words in use,
-- by what they are.
pub record ArenaSums : Type 0 where
  pub chunks : ℕ
  pub capacity : ℕ
  pub fronts : ℕ
  pub used : ℕ
  pub live : ℕ
  pub free_blocks : ℕ
  pub waste : ℕ

-- A loader's name and kind, and the sums over its arena in each space.
pub record LoaderSums : Type 0 where
  pub name : ℕ
  pub kind : Kind
  pub space : ArenaSums
  pub class_space : ArenaSums

-- All that a full report shows beyond the totals: the sums of each loader, and each root's cells.
pub record DetailSums : Type 0 where
  pub loaders : List LoaderSums
  pub roots : List RootCells

-- The sums over a loader's arena in a space; waste is what is in use and neither live nor a free
-- block.
abbrev pub arena_sums : Space → LoaderState → ArenaSums
arena_sums space loader = record {
  chunks = length (arena_of space loader).chunks;
  capacity = capacity_of (arena_of space loader).chunks;
  fronts = fronts_of (arena_of space loader).chunks;
  used = used_of (arena_of space loader);
  live = live_in space loader;
  free_blocks = kept_of (arena_of space loader);
  waste = used_of (arena_of space loader) - live_in space loader - kept_of (arena_of space loader);
}

-- A loader's sums.
abbrev pub loader_sums : ℕ × LoaderState → LoaderSums
loader_sums entry = record {
  name = entry.0;
  kind = entry.1.kind;
  space = arena_sums NonClass entry.1;
  class_space = arena_sums Class entry.1;
}

-- Those of each loader of a machine, in order of name, and the cells of each reserved root, those
-- of the class space last.
abbrev pub details_of : Machine → DetailSums
details_of m = record {
  loaders = map loader_sums m.loaders;
  roots = maps_of (pool_of NonClass m) ++ maps_of (pool_of Class m);
}

-- The numbers that totals of an arena stand for, and details of a loader and of all.
abbrev pub arena_in : ArenaTotals → ArenaSums
arena_in totals = record {
  chunks = totals.chunks;
  capacity = totals.capacity;
  fronts = totals.fronts;
  used = totals.used;
  live = totals.live;
  free_blocks = totals.free_blocks;
  waste = totals.waste;
}

abbrev pub loader_in : LoaderDetails → LoaderSums
loader_in loader = record {
  name = loader.name;
  kind = loader.kind;
  space = arena_in loader.space;
  class_space = arena_in loader.class_space;
}

abbrev pub details_in : Details → DetailSums
details_in details = record {
  loaders = map loader_in details.loaders.items;
  roots = map map_in details.roots.items;
}

-- The details that totals tell, if any.
abbrev pub told_in : Totals → Option DetailSums
told_in totals = option_map details_in totals.details

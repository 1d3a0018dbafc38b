-- The totals of a system as the numbers that they stand for.
use Rattle.std.specs.Prelude.{map}
use Rattle.ms_base.specs.Totals.{SpaceSums, Sums, LoaderRow as RowSums}
use Rattle.ms_answers.specs.declared.totals.SpaceTotals.{SpaceTotals}
use Rattle.ms_answers.specs.declared.totals.LoaderRow.{LoaderRow}
use Rattle.ms_answers.specs.declared.totals.Totals.{Totals}

-- The sums over one space.
abbrev pub space_in : SpaceTotals → SpaceSums
space_in totals = record {
  nodes = totals.nodes;
  reserved = totals.reserved;
  granules = totals.granules;
  committed = totals.committed;
  chunks = totals.chunks;
  capacity = totals.capacity;
  fronts = totals.fronts;
  used = totals.used;
  live = totals.live;
  free_blocks = totals.free_blocks;
  waste = totals.waste;
  held = totals.held;
  free = totals.free;
}

-- A loader's row.
abbrev pub row_in : LoaderRow → RowSums
row_in row = record {
  name = row.name;
  kind = row.kind;
  chunks = row.chunks;
  capacity = row.capacity;
  used = row.used;
  live = row.live;
}

-- All that a report shows.
abbrev pub sums_in : Totals → Sums
sums_in totals = record {
  loaders = totals.loaders;
  space = space_in totals.space;
  class_space = space_in totals.class_space;
  rows = map row_in totals.rows.items;
}

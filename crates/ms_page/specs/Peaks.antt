-- The most over columns (this project's choice).
use Rattle.std.specs.Prelude.{ℕ, ◌*◌, List, [], ◌∷◌, max}
use Rattle.ms_base.specs.Part.{node_words}
use Rattle.ms_base.specs.declared.settings.Settings.{Settings}
use Rattle.ms_course.specs.declared.column.Column.{Column}
use Rattle.ms_course.specs.declared.standing.Extent.{Extent}
use Rattle.ms_course.specs.declared.standing.Standing.{Standing}

-- The most that columns have of an amount; 0 where there are none.
abbrev pub most : (Column → ℕ) → List Column → ℕ
most amount [] = 0
most amount (column ∷ columns) = max (amount column) (most amount columns)

-- The most of each amount, by itself.
abbrev pub most_words : (Column → Extent) → List Column → Extent
most_words extent columns = record {
  reserved = most (λ column. (extent column).reserved) columns;
  committed = most (λ column. (extent column).committed) columns;
  used = most (λ column. (extent column).used) columns;
  live = most (λ column. (extent column).live) columns;
}

abbrev pub peaks_of : List Column → Standing
peaks_of columns = record {
  both = most_words (λ column. column.most.both) columns;
  class_space = most_words (λ column. column.most.class_space) columns;
  loaders = most (λ column. column.most.loaders) columns;
}

-- The same with so many words reserved at least.
abbrev pub with_reserved : ℕ → Standing → Standing
with_reserved words peaks = record peaks {
  both = record peaks.both { reserved = max peaks.both.reserved words };
  class_space = record peaks.class_space { reserved = max peaks.class_space.reserved words };
}

-- The words of the class space's nodes, which are reserved from before the first line.
abbrev pub class_words : Settings → ℕ
class_words settings = settings.class_nodes * node_words

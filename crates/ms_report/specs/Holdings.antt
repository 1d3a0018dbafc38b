-- What each loader holds in each space: the part Loaders of a full report (after HotSpot's
-- VM.metaspace, with this project's numbers).
use Rattle.std.specs.Prelude.{ℕ, ◌==◌, List, [], ◌∷◌, ◌++◌, codes, if◌then◌else◌}
use Rattle.std.specs.Fmt.{decimal}
use Rattle.ms_base.specs.declared.kind.Space.{Space}
use Rattle.ms_base.specs.declared.kind.Space.TheVariants.{NonClass, Class}
use Rattle.ms_answers.specs.Details.{ArenaSums, LoaderSums}
use Rattle.ms_report.specs.Kinds.{sum_columns}
use Rattle.ms_report.specs.Layout.{Table, table_line, header, kind_text}

-- The word of a space.
abbrev pub space_text : Space → List ℕ
space_text NonClass = codes "non-class"
space_text Class = codes "class"

-- The table of what loaders hold.
abbrev pub holding_table : Table
holding_table = (codes "name", 5) ∷ (codes "kind", 12) ∷ (codes "space", 11) ∷ sum_columns

-- The sums over an arena as texts.
abbrev pub arena_texts : ArenaSums → List (List ℕ)
arena_texts arena =
    decimal arena.chunks
    ∷ decimal arena.capacity
    ∷ decimal arena.fronts
    ∷ decimal arena.used
    ∷ decimal arena.live
    ∷ decimal arena.free_blocks
    ∷ decimal arena.waste
    ∷ []

-- The line of what a loader holds in a space.
abbrev pub holding_line : LoaderSums → Space → ArenaSums → List ℕ
holding_line loader space arena =
    table_line holding_table (decimal loader.name ∷ kind_text loader.kind ∷ space_text space ∷ arena_texts arena)

-- It is left out where the loader holds no chunk there.
abbrev pub holding : LoaderSums → Space → ArenaSums → List ℕ
holding loader space arena = if arena.chunks == 0 then [] else holding_line loader space arena

-- What a loader holds, its line of the class space last.
abbrev pub holdings : LoaderSums → List ℕ
holdings loader = holding loader NonClass loader.space ++ holding loader Class loader.class_space

-- What each loader holds.
abbrev pub all_holdings : List LoaderSums → List ℕ
all_holdings [] = []
all_holdings (loader ∷ loaders) = holdings loader ++ all_holdings loaders

-- The lines follow their headings.
abbrev pub holdings_part : List LoaderSums → List ℕ
holdings_part loaders = codes "Loaders by space\n" ++ header holding_table ++ all_holdings loaders

-- Sums as objects, their members under the report's labels in the order of their bytes (this
-- project's choice).
use Rattle.std.specs.Prelude.{ℕ, ◌/◌, List, [], ◌∷◌, codes, map}
use Rattle.serde_json.specs.Data.{Data, string}
use Rattle.ms_base.specs.declared.kind.Kind.{Kind}
use Rattle.ms_base.specs.declared.kind.Kind.TheVariants.{Standard, Boot, Reflection, Hidden}
use Rattle.ms_base.specs.declared.settings.Settings.{Settings}
use Rattle.ms_base.specs.Policy.{granule_of}
use Rattle.ms_base.specs.Totals.{SpaceSums, Sums}
use Rattle.ms_answers.specs.Details.{ArenaSums, LoaderSums}
use Rattle.ms_answers.specs.declared.peaks.Peaks.{Peaks}
use Rattle.ms_pool.specs.Mapping.{RootCells}
use Rattle.ms_report.specs.Kinds.{kinds_of}
use Rattle.ms_report.specs.Layout.{kind_text}
use Rattle.ms_report.specs.Map.{letters}
use Rattle.ms_report.specs.Setup.{policy_text}
use Rattle.ms_report.specs.declared.kinds.KindTotals.{KindTotals}
use Rattle.ms_report.specs.declared.kinds.Kinds.{Kinds}
use Rattle.ms_report.specs.declared.refused.Refusals.{Refusals}
use Rattle.ms_json.specs.Rows.{list_of, natural, object_of}

-- The sums over an arena.
abbrev pub arena_data : ArenaSums → Data
arena_data sums = object_of (
    (codes "capacity", natural sums.capacity)
    ∷ (codes "chunks", natural sums.chunks)
    ∷ (codes "free blocks", natural sums.free_blocks)
    ∷ (codes "fronts", natural sums.fronts)
    ∷ (codes "live", natural sums.live)
    ∷ (codes "used", natural sums.used)
    ∷ (codes "waste", natural sums.waste)
    ∷ [])

-- A loader's name and kind, and the sums over its arena in each space.
abbrev pub loader_data : LoaderSums → Data
loader_data loader = object_of (
    (codes "class", arena_data loader.class_space)
    ∷ (codes "kind", string (kind_text loader.kind))
    ∷ (codes "name", natural loader.name)
    ∷ (codes "non-class", arena_data loader.space)
    ∷ [])

-- The sums over the loaders of a kind, over both spaces, and those of each kind.
abbrev pub kind_data : Kind → KindTotals → Data
kind_data kind totals = object_of (
    (codes "capacity", natural totals.capacity)
    ∷ (codes "chunks", natural totals.chunks)
    ∷ (codes "free blocks", natural totals.free_blocks)
    ∷ (codes "fronts", natural totals.fronts)
    ∷ (codes "kind", string (kind_text kind))
    ∷ (codes "live", natural totals.live)
    ∷ (codes "loaders", natural totals.loaders)
    ∷ (codes "used", natural totals.used)
    ∷ (codes "waste", natural totals.waste)
    ∷ [])

abbrev pub kinds_told : Kinds → Data
kinds_told kinds = list_of (
    kind_data Boot kinds.boot
    ∷ kind_data Standard kinds.standard
    ∷ kind_data Hidden kinds.hidden
    ∷ kind_data Reflection kinds.reflection
    ∷ [])

abbrev pub kinds_data : List LoaderSums → Data
kinds_data loaders = kinds_told (kinds_of loaders)

-- The sums over a space, with its chunks and free parts by level.
abbrev pub space_data : List ℕ → SpaceSums → Data
space_data name sums = object_of (
    (codes "capacity", natural sums.capacity)
    ∷ (codes "chunks", natural sums.chunks)
    ∷ (codes "committed", natural sums.committed)
    ∷ (codes "free", list_of (map natural sums.free))
    ∷ (codes "free blocks", natural sums.free_blocks)
    ∷ (codes "fronts", natural sums.fronts)
    ∷ (codes "granules", natural sums.granules)
    ∷ (codes "held", list_of (map natural sums.held))
    ∷ (codes "live", natural sums.live)
    ∷ (codes "nodes", natural sums.nodes)
    ∷ (codes "reserved", natural sums.reserved)
    ∷ (codes "space", string name)
    ∷ (codes "used", natural sums.used)
    ∷ (codes "waste", natural sums.waste)
    ∷ [])

abbrev pub spaces_data : Sums → Data
spaces_data sums = list_of (
    space_data (codes "non-class") sums.space
    ∷ space_data (codes "class") sums.class_space
    ∷ [])

-- How many lines were refused, by the refusal's name.
abbrev pub refused_data : Refusals → Data
refused_data counts = object_of (
    (codes "BlockExists", natural counts.block_exists)
    ∷ (codes "CommitLimit", natural counts.commit_limit)
    ∷ (codes "IdsUsedUp", natural counts.ids_used_up)
    ∷ (codes "LoaderExists", natural counts.loader_exists)
    ∷ (codes "NoBlock", natural counts.no_block)
    ∷ (codes "NoLoader", natural counts.no_loader)
    ∷ (codes "OutOfMemory", natural counts.out_of_memory)
    ∷ (codes "OutOfRange", natural counts.out_of_range)
    ∷ (codes "ReserveLimit", natural counts.reserve_limit)
    ∷ (codes "TooLarge", natural counts.too_large)
    ∷ (codes "ZeroWords", natural counts.zero_words)
    ∷ [])

-- The peaks of a run.
abbrev pub peaks_data : Peaks → Data
peaks_data peaks = object_of (
    (codes "granules", natural peaks.granules)
    ∷ (codes "loaders", natural peaks.loaders)
    ∷ (codes "nodes", natural peaks.nodes)
    ∷ (codes "used", natural peaks.used)
    ∷ [])

-- A root: the letter of each of its cells, its number, and its slot.
abbrev pub root_data : RootCells → Data
root_data root = object_of (
    (codes "places", string (letters root.cells))
    ∷ (codes "root", natural root.root)
    ∷ (codes "slot", natural (root.root / 2))
    ∷ [])

-- What a run was set up with.
abbrev pub settings_data : Settings → Data
settings_data settings = object_of (
    (codes "class nodes", natural settings.class_nodes)
    ∷ (codes "granule", natural (granule_of settings.policy))
    ∷ (codes "max granules", natural settings.max_granules)
    ∷ (codes "nodes", natural settings.nodes)
    ∷ (codes "policy", string (policy_text settings.policy))
    ∷ (codes "workers", natural settings.workers)
    ∷ [])

-- What the loaders of each kind hold (this project's choice).
use Rattle.std.specs.Prelude.{ℕ, Bool, List, [], ◌∷◌, map, if◌then◌else◌}
use Rattle.std.specs.List.{count_by, sum_by}
use Rattle.ms_base.specs.declared.kind.Kind.{Kind}
use Rattle.ms_base.specs.declared.kind.Kind.TheVariants.{Boot, Standard, Hidden, Reflection}
use Rattle.ms_course.specs.declared.course.LoaderThen.{LoaderThen}
use Rattle.ms_answers.specs.Details.{loader_in}
use Rattle.ms_answers.specs.declared.details.LoaderDetails.{LoaderDetails}
use Rattle.ms_report.specs.Kinds.{kinds_of, same_kind}
use Rattle.ms_report.specs.declared.kinds.KindTotals.{KindTotals}
use Rattle.ms_page.specs.declared.kinds.KindHolding.{KindHolding}
use Rattle.ms_page.specs.Sums.{capped}

-- A loader half-way is of a kind, and its live words if it is.
abbrev pub is_of_kind : Kind → LoaderThen → Bool
is_of_kind kind loader = same_kind kind loader.kind

abbrev pub live_if : Kind → LoaderThen → ℕ
live_if kind loader = if is_of_kind kind loader then loader.live else 0

-- The live words of a kind half-way.
abbrev pub live_of : Kind → List LoaderThen → ℕ
live_of kind halfway = capped (sum_by (live_if kind) halfway)

-- The sums of a kind beside what there was of it half-way.
abbrev pub kind_holding : Kind → List LoaderThen → KindTotals → KindHolding
kind_holding kind halfway totals = record {
  kind = kind;
  loaders_then = count_by (is_of_kind kind) halfway;
  live_then = live_of kind halfway;
  totals = totals;
}

-- A row for each kind.
abbrev pub kind_holdings : List LoaderThen → List LoaderDetails → List KindHolding
kind_holdings halfway loaders =
    let kinds = kinds_of (map loader_in loaders) in
    kind_holding Boot halfway kinds.boot
    ∷ kind_holding Standard halfway kinds.standard
    ∷ kind_holding Hidden halfway kinds.hidden
    ∷ kind_holding Reflection halfway kinds.reflection
    ∷ []

-- Loaders one after the other: sums over those of a kind, and what each holds. `sum_one` and
-- `push_all` use these.
use Rattle.std.proofs.Common.{◌≡◌, ◌<◌, ◌+◌, ℕ, true, false, List, [], ◌∷◌, ◌++◌, length, map, take, drop, get_or}
use Rattle.std.proofs.Common.{codes, decimal, if◌then◌else◌, is_ok, Result, Ok, Err, OnOk, refl, sym, ap, ◌∙◌, arith}
use Rattle.std.specs.List.{filter}
use Rattle.std.proofs.lemmas.List.{map-append, take_more, drop_more, length-append, append-nil, append_assoc}
use Rattle.std.proofs.lemmas.List.Elements.{filter-append}
use Rattle.std.proofs.lemmas.List.Sums.{sum_by_push}
use Rattle.ms_base.specs.declared.kind.Kind.{Kind}
use Rattle.ms_answers.specs.Details.{LoaderSums, loader_in}
use Rattle.ms_answers.specs.declared.details.LoaderDetails.{LoaderDetails}
use Rattle.ms_report.specs.declared.kinds.KindTotals.{KindTotals}
use Rattle.ms_report.specs.Holdings.{holdings, all_holdings}
use Rattle.ms_report.specs.Kinds.{IsBelow, in_both, is_of, same_kind, sums_over, with_loader}
use Rattle.ms_report.specs.Kinds.{kind_line, sum_columns, sum_texts}
use Rattle.ms_report.specs.Layout.{cells, kind_text, right_in}
use Rattle.ms_report.proofs.TextLemmas.{adds_two}

-- The sums with one more loader.
sums_more : (loaders : List LoaderSums) (loader : LoaderSums)
    → sums_over (loaders ++ loader ∷ []) ≡ with_loader (sums_over loaders) loader
sums_more loaders loader =
    rw (
      length-append loaders (loader ∷ []),
      sum_by_push (in_both (λ arena. arena.chunks)) loaders loader,
      sum_by_push (in_both (λ arena. arena.capacity)) loaders loader,
      sum_by_push (in_both (λ arena. arena.fronts)) loaders loader,
      sum_by_push (in_both (λ arena. arena.used)) loaders loader,
      sum_by_push (in_both (λ arena. arena.live)) loaders loader,
      sum_by_push (in_both (λ arena. arena.free_blocks)) loaders loader,
      sum_by_push (in_both (λ arena. arena.waste)) loaders loader,
    ) refl

-- The loaders of a kind among the first ones: one more of the kind, or of another.
abbrev pub kind_first : Kind → ℕ → List LoaderDetails → List LoaderSums
kind_first kind at loaders = filter (is_of kind) (map loader_in (take at loaders))

first_more : (kind : Kind) (loaders : List LoaderDetails) (at : ℕ) (other loader : LoaderDetails) → at < length loaders
    → loader ≡ get_or loaders at other
    → kind_first kind (at + 1) loaders
    ≡ kind_first kind at loaders ++ filter (is_of kind) (loader_in loader ∷ [])
first_more kind loaders at other loader more is =
    ap (λ (l : List LoaderDetails). filter (is_of kind) (map loader_in l))
    (take_more loaders at other more ∙ ap (λ (d : LoaderDetails). take at loaders ++ d ∷ []) (sym is))
    ∙ ap (filter (is_of kind)) (map-append loader_in (take at loaders) (loader ∷ []))
    ∙ filter-append (is_of kind) (map loader_in (take at loaders)) (loader_in loader ∷ [])

pub one_of_kind : (kind : Kind) (loaders : List LoaderDetails) (at : ℕ) (other loader : LoaderDetails)
    → at < length loaders → loader ≡ get_or loaders at other → same_kind kind loader.kind ≡ true
    → sums_over (kind_first kind (at + 1) loaders)
    ≡ with_loader (sums_over (kind_first kind at loaders)) (loader_in loader)
one_of_kind kind loaders at other loader more is same =
    rw (first_more kind loaders at other loader more is, same)
    (sums_more (kind_first kind at loaders) (loader_in loader))

pub one_of_other : (kind : Kind) (loaders : List LoaderDetails) (at : ℕ) (other loader : LoaderDetails)
    → at < length loaders → loader ≡ get_or loaders at other → same_kind kind loader.kind ≡ false
    → sums_over (kind_first kind (at + 1) loaders) ≡ sums_over (kind_first kind at loaders)
one_of_other kind loaders at other loader more is differ =
    rw (first_more kind loaders at other loader more is, differ, append-nil (kind_first kind at loaders)) refl

-- What is less than so many is less than more.
pub below_more : (count : ℕ) (totals : KindTotals) → IsBelow count totals → IsBelow (count + 1) totals
below_more count totals below = record {
  loaders = omega (arith, below.loaders);
  chunks = omega (arith, below.chunks);
  capacity = omega (arith, below.capacity);
  fronts = omega (arith, below.fronts);
  used = omega (arith, below.used);
  live = omega (arith, below.live);
  free_blocks = omega (arith, below.free_blocks);
  waste = omega (arith, below.waste);
}

-- What the next loader holds, and then the later ones.
pub holdings_more : (whole old new : List ℕ) (loaders : List LoaderDetails) (at : ℕ) (other loader : LoaderDetails)
    → at < length loaders → loader ≡ get_or loaders at other
    → whole ≡ old ++ all_holdings (map loader_in (drop at loaders)) → new ≡ old ++ holdings (loader_in loader)
    → whole ≡ new ++ all_holdings (map loader_in (drop (at + 1) loaders))
holdings_more whole old new loaders at other loader more is so_far added =
    let later : List ℕ = all_holdings (map loader_in (drop (at + 1) loaders)) in
    so_far
    ∙ ap (λ (l : List LoaderDetails). old ++ all_holdings (map loader_in l)) (drop_more loaders at other more)
    ∙ ap (λ (d : LoaderDetails). old ++ (holdings (loader_in d) ++ later)) (sym is)
    ∙ sym (append_assoc old (holdings (loader_in loader)) later) ∙ ap (λ (t : List ℕ). t ++ later) (sym added)

-- The line of a kind is its first two columns, its sums, and the line's end.
pub kind_added : {X E : Type 0} (result : Result X E) (old mid new : List ℕ) (kind : Kind) (totals : KindTotals)
    → mid ≡ old
    ++ ((codes "  " ++ (right_in 12 (kind_text kind) ++ right_in 9 (decimal totals.loaders)))
    ++ cells sum_columns (sum_texts totals))
    → new ≡ (if is_ok result then mid ++ codes "\n" else mid) → OnOk result (new ≡ old ++ kind_line kind totals)
kind_added (Err error) old mid new kind totals first second = tt
kind_added (Ok done) old mid new kind totals first second =
    adds_two old mid new _ (codes "\n") first second
    ∙ ap (λ (columns : List ℕ). old ++ ((codes "  " ++ columns) ++ codes "\n"))
    (append_assoc (right_in 12 (kind_text kind)) (right_in 9 (decimal totals.loaders))
    (cells sum_columns (sum_texts totals)))

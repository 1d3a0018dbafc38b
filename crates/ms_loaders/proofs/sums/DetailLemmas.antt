-- A walk over loaders that tells the sums of each: what is told so far and what is left come to the
-- whole. `gather_loaders` uses these.
use Rattle.std.proofs.Common.{◌≡◌, ◌-◌, ℕ, List, [], ◌∷◌, ◌++◌, map, refl, ap, ◌∙◌, arith}
use Rattle.std.proofs.lemmas.List.{map-append, append_assoc}
use Rattle.ms_base.specs.declared.kind.Kind.{Kind}
use Rattle.ms_base.specs.declared.kind.Space.{Space}
use Rattle.ms_base.specs.declared.kind.Space.TheVariants.{NonClass, Class}
use Rattle.ms_base.specs.State.{LoaderState, arena_of}
use Rattle.ms_base.specs.Totals.{used_of, kept_of, live_in}
use Rattle.ms_arena.specs.declared.totals.ArenaTotals.{ArenaTotals}
use Rattle.ms_loader.specs.ArenaSums.{AreSumsIn}
use Rattle.ms_answers.specs.Details.{LoaderSums, arena_in, arena_sums, loader_in, loader_sums}
use Rattle.ms_answers.specs.declared.details.LoaderDetails.{LoaderDetails}

-- Totals that are the sums over a loader's arena are told so.
pub arena_is : (space : Space) (totals : ArenaTotals) (loader : LoaderState) → AreSumsIn space totals loader
    → arena_in totals ≡ arena_sums space loader
arena_is space totals loader its =
    let waste : totals.waste
    ≡ used_of (arena_of space loader) - live_in space loader - kept_of (arena_of space loader) =
    omega (arith, its.used, its.live, its.free_blocks, its.waste) in
    rw (its.chunks, its.capacity, its.fronts, its.used, its.live, its.free_blocks, waste) refl

-- So are those of a loader's both arenas.
pub loader_is : (name : ℕ) (loader : LoaderState) (kind : Kind) (arena class_arena : ArenaTotals)
    → kind ≡ loader.kind → AreSumsIn NonClass arena loader → AreSumsIn Class class_arena loader
    → record { name = name; kind = kind; space = arena_in arena; class_space = arena_in class_arena }
    ≡ loader_sums (name, loader)
loader_is name loader kind arena class_arena same its theirs =
    rw (same, arena_is NonClass arena loader its, arena_is Class class_arena loader theirs) refl

-- What is told so far, and what is left, come to the whole.
abbrev pub DetailsLead : List LoaderDetails → List (ℕ × LoaderState) → List (ℕ × LoaderState) → Type 0
DetailsLead rows left all = map loader_in rows ++ map loader_sums left ≡ map loader_sums all

pub details_lead_on : (rows new : List LoaderDetails) (row : LoaderDetails) (entry : ℕ × LoaderState)
    (left all : List (ℕ × LoaderState)) → DetailsLead rows (entry ∷ left) all → new ≡ rows ++ row ∷ []
    → loader_in row ≡ loader_sums entry → DetailsLead new left all
details_lead_on rows new row entry left all so_far pushed is =
    ap (λ (l : List LoaderDetails). map loader_in l ++ map loader_sums left) pushed
    ∙ ap (λ (l : List LoaderSums). l ++ map loader_sums left) (map-append loader_in rows (row ∷ []))
    ∙ append_assoc (map loader_in rows) (loader_in row ∷ []) (map loader_sums left)
    ∙ ap (λ (r : LoaderSums). map loader_in rows ++ r ∷ map loader_sums left) is ∙ so_far

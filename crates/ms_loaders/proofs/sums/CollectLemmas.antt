-- A walk over loaders that adds up what each holds, and makes its row: what is added so far and
-- what is left come to the whole. `gather` uses these.
use Rattle.std.proofs.Common.{◌≡◌, ◌+◌, ◌<◌, ◌^◌, ℕ, List, [], ◌∷◌, ◌++◌, map, refl, ap, ◌∙◌, arith, inl, inr}
use Rattle.std.specs.List.{filter, sum_by}
use Rattle.std.specs.Map.{values_of}
use Rattle.std.proofs.lemmas.List.{map-append, append_assoc}
use Rattle.std.proofs.lemmas.List.Sums.{sum_by-cons}
use Rattle.ms_base.specs.declared.kind.Space.{Space}
use Rattle.ms_base.specs.declared.kind.Space.TheVariants.{NonClass, Class}
use Rattle.ms_base.specs.Live.{runs_of}
use Rattle.ms_base.specs.Spaces.{is_in}
use Rattle.ms_base.specs.State.{LoaderState}
use Rattle.ms_base.specs.Totals.{LoaderRow, live_in, row_of}
use Rattle.ms_base.proofs.arena.BlockLemmas.{not_in_other}
use Rattle.ms_arena.specs.declared.totals.ArenaTotals.{ArenaTotals}
use Rattle.ms_answers.specs.Sums.{row_in}
use Rattle.ms_loader.specs.ArenaSums.{AreSumsIn}
use Rattle.ms_loaders.specs.Collecting.{AreFew, chunks_in, used_in, kept_in, row_made}
use Rattle.ms_loaders.specs.declared.in_use.InUse.{InUse}
use Rattle.ms_answers.specs.declared.totals.LoaderRow.{LoaderRow as Row}
use Rattle.ms_loader.proofs.calls.NamedRunLemmas.{where_is}

-- The live words of a loader are those of its spaces.
abbrev words_of_run : ℕ × ℕ → ℕ
words_of_run run = run.1

abbrev runs_there : Space → List (ℕ × ℕ) → List (ℕ × ℕ)
runs_there space runs = filter (λ (run : ℕ × ℕ). is_in space run.0) runs

words_by_space : (runs : List (ℕ × ℕ)) → sum_by words_of_run runs
    ≡ sum_by words_of_run (runs_there NonClass runs) + sum_by words_of_run (runs_there Class runs)
words_by_space [] = refl
words_by_space (run ∷ runs) = elim (where_is NonClass run.0) [
  | inl here ↦ rw (here.inside, not_in_other NonClass run.0 here.inside)
      (omega (
        arith,
        sum_by-cons words_of_run run runs,
        sum_by-cons words_of_run run (runs_there NonClass runs),
        words_by_space runs,
      ))
  | inr there ↦ rw (there.inside, not_in_other Class run.0 there.inside)
      (omega (
        arith,
        sum_by-cons words_of_run run runs,
        sum_by-cons words_of_run run (runs_there Class runs),
        words_by_space runs,
      ))
]

-- So a row that is made of the sums over both arenas is the loader's.
row_with : (name : ℕ) (loader : LoaderState) → ℕ → ℕ → ℕ → ℕ → LoaderRow
row_with name loader chunks capacity used live =
    record { name = name; kind = loader.kind; chunks = chunks; capacity = capacity; used = used; live = live }

pub row_is : (name : ℕ) (loader : LoaderState) (arena class_arena : ArenaTotals) → AreSumsIn NonClass arena loader
    → AreSumsIn Class class_arena loader → row_made name loader.kind arena class_arena ≡ row_of (name, loader)
unfolding row_with
row_is name loader arena class_arena its theirs =
    let row : ℕ → ℕ → ℕ → ℕ → LoaderRow = row_with name loader in
    let is : LoaderRow = row_of (name, loader) in
    let made : LoaderRow = row_made name loader.kind arena class_arena in
    let chunks : made.chunks ≡ is.chunks = omega (arith, its.chunks, theirs.chunks) in
    let capacity : made.capacity ≡ is.capacity = omega (arith, its.capacity, theirs.capacity) in
    let used : made.used ≡ is.used = omega (arith, its.used, theirs.used) in
    let live : made.live ≡ is.live = omega (arith, its.live, theirs.live, words_by_space (runs_of loader.blocks)) in
    ap (λ n. row n made.capacity made.used made.live) chunks ∙ ap (λ n. row is.chunks n made.used made.live) capacity
    ∙ ap (λ n. row is.chunks is.capacity n made.live) used ∙ ap (row is.chunks is.capacity is.used) live

-- What is added so far, and what is left, come to the whole.
pub record Leads (space : Space) (sums : InUse) (left all : List (ℕ × LoaderState)) : Type 0 where
  pub chunks : sums.chunks + sum_by (chunks_in space) (values_of left) ≡ sum_by (chunks_in space) (values_of all)
  pub used : sums.used + sum_by (used_in space) (values_of left) ≡ sum_by (used_in space) (values_of all)
  pub live : sums.live + sum_by (live_in space) (values_of left) ≡ sum_by (live_in space) (values_of all)
  pub free_blocks : sums.free_blocks + sum_by (kept_in space) (values_of left) ≡ sum_by (kept_in space) (values_of all)

-- Once the next loader's arena is added, the others are left.
pub leads_on : (space : Space) (sums new : InUse) (arena : ArenaTotals) (name : ℕ) (loader : LoaderState)
    (left all : List (ℕ × LoaderState)) → Leads space sums ((name, loader) ∷ left) all → AreSumsIn space arena loader
    → new.chunks ≡ sums.chunks + arena.chunks → new.used ≡ sums.used + arena.used → new.live ≡ sums.live + arena.live
    → new.free_blocks ≡ sums.free_blocks + arena.free_blocks → Leads space new left all
leads_on space sums new arena name loader left all so_far its chunks used live free_blocks = record {
  chunks = omega (arith, so_far.chunks, sum_by-cons (chunks_in space) loader (values_of left), its.chunks, chunks);
  used = omega (arith, so_far.used, sum_by-cons (used_in space) loader (values_of left), its.used, used);
  live = omega (arith, so_far.live, sum_by-cons (live_in space) loader (values_of left), its.live, live);
  free_blocks =
      omega (
        arith,
        so_far.free_blocks,
        sum_by-cons (kept_in space) loader (values_of left),
        its.free_blocks,
        free_blocks,
      );
}

-- What is added so far is few enough for the next loader's arena.
pub few_so_far : (space : Space) (sums : InUse) (arena : ArenaTotals) (name : ℕ) (loader : LoaderState)
    (left all : List (ℕ × LoaderState)) → Leads space sums ((name, loader) ∷ left) all → AreSumsIn space arena loader
    → AreFew all → sums.chunks + arena.chunks < 2 ^ 32
few_so_far space sums arena name loader left all so_far its few =
    omega (
      arith,
      so_far.chunks,
      sum_by-cons (chunks_in space) loader (values_of left),
      its.chunks,
      few.chunks space,
    )

pub fits_so_far : (space : Space) (sums : InUse) (arena : ArenaTotals) (name : ℕ) (loader : LoaderState)
    (left all : List (ℕ × LoaderState)) → Leads space sums ((name, loader) ∷ left) all → AreSumsIn space arena loader
    → AreFew all → sums.used + arena.used < 2 ^ 64
fits_so_far space sums arena name loader left all so_far its few =
    omega (arith, so_far.used, sum_by-cons (used_in space) loader (values_of left), its.used, few.words space)

-- So the next loader's arena has few chunks, and few words in use.
pub record IsFew (arena : ArenaTotals) : Type 0 where
  pub chunks : arena.chunks < 2 ^ 31
  pub used : arena.used < 2 ^ 63

pub is_few : (space : Space) (sums : InUse) (arena : ArenaTotals) (name : ℕ) (loader : LoaderState)
    (left all : List (ℕ × LoaderState)) → Leads space sums ((name, loader) ∷ left) all → AreSumsIn space arena loader
    → AreFew all → IsFew arena
is_few space sums arena name loader left all so_far its few =
    let chunks = sum_by-cons (chunks_in space) loader (values_of left) in
    let used = sum_by-cons (used_in space) loader (values_of left) in record {
      chunks = omega (arith, so_far.chunks, chunks, its.chunks, few.chunks space);
      used = omega (arith, so_far.used, used, its.used, few.words space);
    }

-- So are the rows.
abbrev pub RowsLead : List Row → List (ℕ × LoaderState) → List (ℕ × LoaderState) → Type 0
RowsLead rows left all = map row_in rows ++ map row_of left ≡ map row_of all

pub rows_lead_on : (rows new : List Row) (row : Row) (entry : ℕ × LoaderState) (left all : List (ℕ × LoaderState))
    → RowsLead rows (entry ∷ left) all → new ≡ rows ++ row ∷ [] → row_in row ≡ row_of entry → RowsLead new left all
rows_lead_on rows new row entry left all so_far pushed is =
    ap (λ (l : List Row). map row_in l ++ map row_of left) pushed
    ∙ ap (λ (l : List LoaderRow). l ++ map row_of left) (map-append row_in rows (row ∷ []))
    ∙ append_assoc (map row_in rows) (row_in row ∷ []) (map row_of left)
    ∙ ap (λ (r : LoaderRow). map row_in rows ++ r ∷ map row_of left) is ∙ so_far

-- Blocks by rank, seen as runs by start: what an addition and the removal of the first fit are
-- there. Used by the methods of `FreeBlocks`.
use Rattle.std.proofs.Common.{length, arith, ◌≡◌, ◌≢◌, ℕ, true, false, List, [], ◌∷◌, Some, None, refl, ap, sym, ◌∙◌}
use Rattle.std.specs.Prelude.{nat_le, if◌then◌else◌}
use Rattle.std.specs.List.{AllByRecursion}
use Rattle.ms_base.specs.declared.span.Block.{Block}
use Rattle.ms_base.specs.Names.{named, with_new, without}
use Rattle.ms_blocks.specs.Rank.{ranks_before, with_ranked, first_fit, without_fit}
use Rattle.ms_blocks.specs.FreeBlocks.{by_start, StartsDiffer}
use Rattle.ms_blocks.proofs.KeptEntryLemmas.{length-with_new, with_new-with_new, named-with_new, named-with_new_other, unnamed_is_other}
use Rattle.ms_blocks.proofs.KeptEntryLemmas.{length-with_new, unnamed_before, without-with_new, all-with_new}

-- A block added at its rank is a run added at its start.
pub by_start-with_ranked : (blocks : List Block) (block : Block) → named (by_start blocks) block.start ≡ None
    → by_start (with_ranked blocks block) ≡ with_new (by_start blocks) block.start block.words
by_start-with_ranked [] block new = refl
by_start-with_ranked (other ∷ blocks) block new =
    let differ : block.start ≢ other.start = unnamed_is_other
    (by_start blocks) other.start other.words block.start new in
    let new_before : named (by_start blocks) block.start ≡ None = unnamed_before
    (by_start blocks) other.start other.words block.start new in
    elim (ranks_before other block) as (λ b. by_start
    (if b then other ∷ with_ranked blocks block else block ∷ other ∷ blocks) ≡ with_new
    (by_start (other ∷ blocks)) block.start block.words) [
      | true ↦ ap (λ runs. with_new runs other.start other.words) (by_start-with_ranked blocks block new_before)
          ∙ sym (with_new-with_new (by_start blocks) block.start block.words other.start other.words differ)
      | false ↦ refl
    ]

-- The starts differ then, too.
pub starts_differ_with : (blocks : List Block) (block : Block) → named (by_start blocks) block.start ≡ None
    → StartsDiffer blocks → StartsDiffer (with_ranked blocks block)
starts_differ_with [] block new differ = (new, tt)
starts_differ_with (other ∷ blocks) block new differ =
    let unlike : block.start ≢ other.start = unnamed_is_other
    (by_start blocks) other.start other.words block.start new in
    let new_before : named (by_start blocks) block.start ≡ None = unnamed_before
    (by_start blocks) other.start other.words block.start new in
    let still_new : named (by_start (with_ranked blocks block)) other.start ≡ None =
    ap (λ runs. named runs other.start) (by_start-with_ranked blocks block new_before)
    ∙ named-with_new_other (by_start blocks) block.start block.words other.start (λ same. unlike (sym same))
    ∙ differ.0 in
    elim (ranks_before other block) as (λ b. StartsDiffer
    (if b then other ∷ with_ranked blocks block else block ∷ other ∷ blocks)) [
      | true ↦ (still_new, starts_differ_with blocks block new_before differ.1)
      | false ↦ (new, differ)
    ]

-- The first fit is a run added to those that stay without it, where it was not before.
pub fit_splits : (blocks : List Block) (words : ℕ) (found : Block) → StartsDiffer blocks
    → first_fit blocks words ≡ Some found
    → (by_start blocks ≡ with_new (by_start (without_fit blocks words)) found.start found.words)
    × (named (by_start (without_fit blocks words)) found.start ≡ None)
fit_splits [] words found differ e = absurd (cc)
fit_splits (other ∷ blocks) words found differ e =
    elim (nat_le words other.words) as (λ b. (if b then Some other else first_fit blocks words) ≡ Some found
    → (by_start (other ∷ blocks) ≡ with_new (by_start
    (if b then blocks else other ∷ without_fit blocks words)) found.start found.words)
    × (named (by_start (if b then blocks else other ∷ without_fit blocks words)) found.start ≡ None)) [
      | true ↦ λ e. let same : other ≡ found = cc in (
        ap (λ (block : Block). with_new (by_start blocks) block.start block.words) same,
        ap (λ (block : Block). named (by_start blocks) block.start) (sym same) ∙ differ.0,
      )
      | false ↦ λ e. later (fit_splits blocks words found differ.1 e)
    ] e
  where
    later : (by_start blocks ≡ with_new (by_start (without_fit blocks words)) found.start found.words)
        × (named (by_start (without_fit blocks words)) found.start ≡ None)
        → (by_start (other ∷ blocks) ≡ with_new (by_start (other ∷ without_fit blocks words)) found.start found.words)
        × (named (by_start (other ∷ without_fit blocks words)) found.start ≡ None)
    later ih =
        let unlike : other.start ≢ found.start = unnamed_is_other
        (by_start (without_fit blocks words)) found.start found.words other.start
        (ap (λ runs. named runs other.start) (sym ih.0) ∙ differ.0) in (
          ap (λ runs. with_new runs other.start other.words) ih.0
              ∙ with_new-with_new
              (by_start (without_fit blocks words)) other.start other.words found.start found.words unlike,
          named-with_new_other (by_start (without_fit blocks words)) other.start other.words found.start
              (λ same. unlike (sym same)) ∙ ih.1,
        )

-- The first fit goes as the run of its start goes.
pub by_start-without_fit : (blocks : List Block) (words : ℕ) (found : Block) → StartsDiffer blocks
    → first_fit blocks words ≡ Some found
    → by_start (without_fit blocks words) ≡ without (by_start blocks) found.start
by_start-without_fit blocks words found differ e =
    let split = fit_splits blocks words found differ e in
    sym (ap (λ runs. without runs found.start) split.0
    ∙ without-with_new (by_start (without_fit blocks words)) found.start found.words split.1)

pub starts_differ_without : (blocks : List Block) (words : ℕ) (found : Block) → StartsDiffer blocks
    → first_fit blocks words ≡ Some found → StartsDiffer (without_fit blocks words)
starts_differ_without [] words found differ e = absurd (cc)
starts_differ_without (other ∷ blocks) words found differ e =
    elim (nat_le words other.words) as (λ b. (if b then Some other else first_fit blocks words) ≡ Some found
    → StartsDiffer (if b then blocks else other ∷ without_fit blocks words)) [
      | true ↦ λ e. differ.1
      | false ↦ λ e. (
        unnamed_before (by_start (without_fit blocks words)) found.start found.words other.start
            (ap (λ runs. named runs other.start) (sym (fit_splits blocks words found differ.1 e).0)
            ∙ differ.0),
        starts_differ_without blocks words found differ.1 e,
      )
    ] e

-- The first fit is found by its start.
pub fit_is_named : (blocks : List Block) (words : ℕ) (found : Block) → StartsDiffer blocks
    → first_fit blocks words ≡ Some found → named (by_start blocks) found.start ≡ Some found.words
fit_is_named blocks words found differ e =
    ap (λ runs. named runs found.start) (fit_splits blocks words found differ e).0
    ∙ named-with_new (by_start (without_fit blocks words)) found.start found.words

-- What holds of all blocks holds of all their runs.
pub all_by_start : (P : ℕ × ℕ → Type 0) (blocks : List Block) → StartsDiffer blocks
    → AllByRecursion (λ (block : Block). P (block.start, block.words)) blocks → AllByRecursion P (by_start blocks)
all_by_start P [] differ all = tt
all_by_start P (block ∷ blocks) differ all = all-with_new P (by_start blocks) block.start block.words differ.0
    (all_by_start P blocks differ.1 all.1) all.0

-- A start that no run has is no block's.
pub new_is_other : (blocks : List Block) (start : ℕ) → named (by_start blocks) start ≡ None
    → AllByRecursion (λ (block : Block). start ≢ block.start) blocks
new_is_other [] start new = tt
new_is_other (block ∷ blocks) start new = (
  unnamed_is_other (by_start blocks) block.start block.words start new,
  new_is_other blocks start (unnamed_before (by_start blocks) block.start block.words start new),
)

-- There are as many runs as blocks.
pub length-by_start : (blocks : List Block) → StartsDiffer blocks → length (by_start blocks) ≡ length blocks
length-by_start [] differ = refl
length-by_start (block ∷ blocks) differ = omega (
  arith,
  length-with_new (by_start blocks) block.start block.words differ.0,
  length-by_start blocks differ.1,
)

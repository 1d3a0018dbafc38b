-- A ranked row: where a block goes there, and which one fits first, told by how many rank before it
-- or are too small. Used by the functions of `few`.
use Rattle.std.proofs.Common.{◌≡◌, ℕ, ◌<◌, ◌≤◌, true, false, List, [], ◌∷◌, Some, None, refl, ap, arith, zero, suc}
use Rattle.std.proofs.Common.{length, inl, inr, subst, sym, take}
use Rattle.std.specs.Prelude.{nat_le, nat_lt, slice_index_or}
use Rattle.std.specs.List.{AllByRecursion, insert, remove}
use Rattle.std.specs.List.Sorted.{IsPartitionedBy, IsPartitionPoint}
use Rattle.std.proofs.lemmas.Bool.{cases_eq, ltb-true}
use Rattle.std.proofs.lemmas.Bool.Decides.{nat_tests}
use Rattle.ms_base.specs.declared.span.Block.{Block}
use Rattle.ms_blocks.specs.Rank.{ranks_before, IsRanked, with_ranked, first_fit, without_fit}
use Rattle.ms_blocks.proofs.RankLemmas.{ranks_on, words_rise}

-- An entry ranks before those behind it.
all_at : (P : Block → Type 0) (blocks : List Block) (at : ℕ) (d : Block) → AllByRecursion P blocks → at < length blocks
    → P (slice_index_or blocks at d)
all_at P [] at d all within = absurd (omega (arith, within))
all_at P (block ∷ blocks) zero d all within = all.0
all_at P (block ∷ blocks) (suc at) d all within = all_at P blocks at d all.1 (omega (arith, within))

in_rank : (blocks : List Block) (i j : ℕ) (d : Block) → IsRanked blocks → i < j → j < length blocks
    → ranks_before (slice_index_or blocks i d) (slice_index_or blocks j d) ≡ true
in_rank [] i j d ranked order within = absurd (omega (arith, within))
in_rank (block ∷ blocks) i zero d ranked order within = absurd (omega (arith, order))
in_rank (block ∷ blocks) zero (suc j) d ranked order within =
    all_at (λ other. ranks_before block other ≡ true) blocks j d ranked.0 (omega (arith, within))
in_rank (block ∷ blocks) (suc i) (suc j) d ranked order within =
    in_rank blocks i j d ranked.1 (omega (arith, order)) (omega (arith, within))

-- The first ones of a ranked row are ranked, and the next one goes behind them.
all_taken : (P : Block → Type 0) (blocks : List Block) (count : ℕ) → AllByRecursion P blocks
    → AllByRecursion P (take count blocks)
all_taken P blocks zero all = tt
all_taken P [] (suc count) all = tt
all_taken P (block ∷ blocks) (suc count) all = (all.0, all_taken P blocks count all.1)

pub ranked_taken : (blocks : List Block) (count : ℕ) → IsRanked blocks → IsRanked (take count blocks)
ranked_taken blocks zero ranked = tt
ranked_taken [] (suc count) ranked = tt
ranked_taken (block ∷ blocks) (suc count) ranked = (
  all_taken (λ other. ranks_before block other ≡ true) blocks count ranked.0,
  ranked_taken blocks count ranked.1,
)

pub next_taken : (blocks : List Block) (count : ℕ) (d : Block) → IsRanked blocks → count < length blocks
    → with_ranked (take count blocks) (slice_index_or blocks count d) ≡ take (suc count) blocks
next_taken [] count d ranked within = absurd (omega (arith, within))
next_taken (block ∷ blocks) zero d ranked within = refl
next_taken (block ∷ blocks) (suc count) d ranked within =
    rw (all_at (λ other. ranks_before block other ≡ true) blocks count d ranked.0 (omega (arith, within)))
    (ap (λ blocks. block ∷ blocks) (next_taken blocks count d ranked.1 (omega (arith, within))))

-- So those that rank before a block, and those that are too small, come first.
pub parted_by_rank : (blocks : List Block) (block : Block) → IsRanked blocks
    → IsPartitionedBy (λ (other : Block). ranks_before other block) blocks
parted_by_rank blocks block ranked = λ i j d order within before. elim (cases_eq i j) [
  | inl same ↦ subst (λ (n : ℕ). ranks_before (slice_index_or blocks n d) block ≡ true) (sym same) before
  | inr differ ↦ ranks_on _ _ block (in_rank blocks i j d ranked (omega (arith, order, differ)) within) before
]

fewer : (a b : Block) (words : ℕ) → ranks_before a b ≡ true → nat_lt b.words words ≡ true → nat_lt a.words words ≡ true
fewer a b words before few = less (words_rise a b before) (ltb-true b.words words few)
  where
    less : a.words ≤ b.words → b.words < words → nat_lt a.words words ≡ true
    less no_more few = grind (arith, nat_tests)

pub parted_by_words : (blocks : List Block) (words : ℕ) → IsRanked blocks
    → IsPartitionedBy (λ (block : Block). nat_lt block.words words) blocks
parted_by_words blocks words ranked = λ i j d order within few. elim (cases_eq i j) [
  | inl same ↦ subst (λ (n : ℕ). nat_lt (slice_index_or blocks n d).words words ≡ true) (sym same) few
  | inr differ ↦ fewer _ _ words (in_rank blocks i j d ranked (omega (arith, order, differ)) within) few
]

-- A block goes behind those that rank before it.
pub put_at : (blocks : List Block) (at : ℕ) (block : Block) → at ≤ length blocks
    → IsPartitionPoint (λ (other : Block). ranks_before other block ≡ true)
    (λ (other : Block). ranks_before other block ≡ false) blocks at
    → with_ranked blocks block ≡ insert blocks at block
put_at [] zero block within point = refl
put_at [] (suc at) block within point = absurd (omega (arith, within))
put_at (other ∷ blocks) zero block within point = rw (point.1 0 block (omega arith) (omega arith)) refl
put_at (other ∷ blocks) (suc at) block within point =
    rw (point.0 0 block (omega arith) (omega arith))
    (ap (λ blocks. other ∷ blocks) (put_at blocks at block (omega (arith, within)) (
      λ k d low high. point.0 (suc k) d (omega arith) (omega (arith, high)),
      λ k d low high. point.1 (suc k) d (omega (arith, low)) (omega (arith, high)),
    )))

-- The first that isn't too small fits.
few_fit : (words n : ℕ) → nat_lt words n ≡ true → nat_le n words ≡ false
few_fit words n few = grind (arith, nat_tests)

enough_fit : (words n : ℕ) → nat_lt words n ≡ false → nat_le n words ≡ true
enough_fit words n few = grind (arith, nat_tests)

pub record TakesAt (blocks : List Block) (at words : ℕ) : Type 0 where
  pub found : (d : Block) → at < length blocks → first_fit blocks words ≡ Some (slice_index_or blocks at d)
  pub left : at < length blocks → without_fit blocks words ≡ remove blocks at
  pub none : at ≡ length blocks → first_fit blocks words ≡ None

pub take_at : (blocks : List Block) (at words : ℕ)
    → IsPartitionPoint (λ (block : Block). nat_lt block.words words ≡ true)
    (λ (block : Block). nat_lt block.words words ≡ false) blocks at
    → TakesAt blocks at words
take_at [] at words point = record {
  found = λ d within. absurd (omega (arith, within));
  left = λ within. absurd (omega (arith, within));
  none = λ all. refl;
}
take_at (block ∷ blocks) zero words point = record {
  found = λ d within. rw here refl;
  left = λ within. rw here refl;
  none = λ all. absurd (omega (arith, all));
}
  where
    here : nat_le words block.words ≡ true
    here = enough_fit block.words words (point.1 0 block (omega arith) (omega arith))
take_at (block ∷ blocks) (suc at) words point =
    past (few_fit block.words words (point.0 0 block (omega arith) (omega arith)))
    (take_at blocks at words (
      λ k d low high. point.0 (suc k) d (omega arith) (omega (arith, high)),
      λ k d low high. point.1 (suc k) d (omega (arith, low)) (omega (arith, high)),
    ))
  where
    past : nat_le words block.words ≡ false → TakesAt blocks at words → TakesAt (block ∷ blocks) (suc at) words
    past few more = record {
      found = λ d within. rw few (more.found d (omega (arith, within)));
      left = λ within. rw few (ap (λ blocks. block ∷ blocks) (more.left (omega (arith, within))));
      none = λ all. rw few (more.none (omega (arith, all)));
    }

-- What is kept of free blocks, after an addition and after the removal of the first fit. Used by
-- `FreeBlocks::add` and `FreeBlocks::remove`.
use Rattle.std.proofs.Common.{◌≡◌, ℕ, ◌+◌, ◌-◌, ◌^◌, ◌%◌, ◌≤◌, ◌<◌, List, Some, None, ap, sym, subst, ◌∙◌, arith}
use Rattle.std.proofs.Common.{[], ◌∷◌, refl}
use Rattle.std.specs.Prelude.{max}
use Rattle.std.specs.List.{AllByRecursion}
use Rattle.std.proofs.lemmas.Bool.{lt-leb}
use Rattle.ms_base.specs.declared.span.Block.{Block}
use Rattle.ms_base.specs.Names.{named, with_new, without}
use Rattle.ms_blocks.specs.Rank.{with_ranked, first_fit, without_fit}
use Rattle.ms_blocks.specs.FreeBlocks.{IsBestFit, NoneFits, MayBeKept, run_of, by_start, StartsDiffer, LieFrom}
use Rattle.ms_blocks.specs.FreeBlocks.{words_in}
use Rattle.ms_blocks.specs.Store.{blocks_in}
use Rattle.ms_blocks.specs.Tended.{AreTended}
use Rattle.ms_blocks.specs.declared.free_blocks.FreeBlocks.TheInside.{Inside}
use Rattle.ms_blocks.proofs.RankLemmas.{all_so, all_with, all_without, ranked_with, ranked_without, without_fit-none}
use Rattle.ms_blocks.proofs.RankLemmas.{length_with, length_without}
use Rattle.ms_blocks.proofs.KeptEntryLemmas.{sum-with_new}
use Rattle.ms_blocks.proofs.StartLemmas.{by_start-with_ranked, starts_differ_with, by_start-without_fit}
use Rattle.ms_blocks.proofs.StartLemmas.{starts_differ_without, fit_splits, new_is_other}
use Rattle.ms_blocks.proofs.LaidLemmas.{added_may_be_kept, apart_is_new, laid_with, laid_without}
use Rattle.ms_blocks.proofs.BestFitLemmas.{all_too_small, fit_is_best, none_fits}

-- A block that may be kept starts where none does, and its run is one more, with its words.
pub is_new : (blocks : List Block) (block : Block) → LieFrom 0 (by_start blocks)
    → MayBeKept (by_start blocks) (run_of block)
    → named (by_start blocks) block.start ≡ None
is_new blocks block laid may = apart_is_new 0 block.start block.words (by_start blocks) laid may.some may.apart

pub runs_with : (blocks : List Block) (block : Block) → LieFrom 0 (by_start blocks)
    → MayBeKept (by_start blocks) (run_of block)
    → by_start (with_ranked blocks block) ≡ with_new (by_start blocks) block.start block.words
runs_with blocks block laid may = by_start-with_ranked blocks block (is_new blocks block laid may)

laid_runs_with : (blocks : List Block) (block : Block) → LieFrom 0 (by_start blocks)
    → MayBeKept (by_start blocks) (run_of block)
    → LieFrom 0 (by_start (with_ranked blocks block))
laid_runs_with blocks block laid may =
    subst (LieFrom 0) (sym (runs_with blocks block laid may))
    (laid_with 0 block.start block.words (by_start blocks) laid (omega arith) may.some may.apart)

words_with : (blocks : List Block) (block : Block) → LieFrom 0 (by_start blocks)
    → MayBeKept (by_start blocks) (run_of block)
    → words_in (by_start (with_ranked blocks block)) ≡ words_in (by_start blocks) + block.words
words_with blocks block laid may = ap words_in (runs_with blocks block laid may)
    ∙ sum-with_new (by_start blocks) block.start block.words (is_new blocks block laid may)

-- One block more.
tended_with : (blocks grown : List Block) (count total most : ℕ) (block : Block)
    → AreTended blocks count total most → MayBeKept (by_start blocks) (run_of block)
    → grown ≡ with_ranked blocks block
    → AreTended grown (count + 1) ((total + block.words) % 2 ^ 64) (max most block.words)
tended_with blocks grown count total most block tended may grows =
    let new = is_new blocks block tended.laid may in
    subst
    (λ (blocks : List Block). AreTended blocks (count + 1) ((total + block.words) % 2 ^ 64) (max most block.words))
    (sym grows)
    (record {
      ranked = ranked_with blocks block tended.ranked (new_is_other blocks block.start new);
      differ = starts_differ_with blocks block new tended.differ;
      laid = laid_runs_with blocks block tended.laid may;
      counted = omega (arith, tended.counted, length_with blocks block);
      summed = omega (arith, tended.summed, words_with blocks block tended.laid may);
      bounded = all_with _ blocks block
          (all_so _ _ blocks (λ other few. omega (arith, few)) tended.bounded) (omega arith);
    })

-- The first fit was one of those counted and summed.
words_without : (blocks : List Block) (n : ℕ) (found : Block) → StartsDiffer blocks → first_fit blocks n ≡ Some found
    → words_in (by_start blocks) ≡ words_in (by_start (without_fit blocks n)) + found.words
words_without blocks n found differ e =
    let split = fit_splits blocks n found differ e in ap words_in split.0
    ∙ sum-with_new (by_start (without_fit blocks n)) found.start found.words split.1

-- One block less.
tended_without : (blocks rest : List Block) (n : ℕ) (found : Block) (count total most : ℕ)
    → AreTended blocks count total most → first_fit blocks n ≡ Some found
    → rest ≡ without_fit blocks n → found.words < 2 ^ 64
    → AreTended rest (count - 1) ((total + (2 ^ 64 - found.words)) % 2 ^ 64) most
tended_without blocks rest n found count total most tended e shrinks below =
    subst (λ (blocks : List Block). AreTended blocks (count - 1) ((total + (2 ^ 64 - found.words)) % 2 ^ 64) most)
    (sym shrinks)
    (record {
      ranked = ranked_without blocks n tended.ranked;
      differ = starts_differ_without blocks n found tended.differ e;
      laid = subst (LieFrom 0) (sym (by_start-without_fit blocks n found tended.differ e))
          (laid_without 0 found.start (by_start blocks) tended.laid);
      counted = omega (arith, tended.counted, length_without blocks n found e);
      summed = omega (arith, tended.summed, words_without blocks n found tended.differ e, below);
      bounded = all_without _ blocks n tended.bounded;
    })

-- None fits of which none has so many words.
none_over : (blocks : List Block) (most n : ℕ) → most < n
    → AllByRecursion (λ (block : Block). block.words ≤ most) blocks → first_fit blocks n ≡ None
none_over [] most n over all = refl
none_over (block ∷ blocks) most n over all =
    rw (lt-leb n block.words (omega (arith, over, all.0))) (none_over blocks most n over all.1)

pub none_kept : {A : Type 0} (f : Inside A) (n : ℕ) → AreTended (blocks_in f.store) f.count f.total f.most → f.most < n
    → NoneFits (by_start (blocks_in f.store)) n
none_kept f n tended over =
    none_fits (blocks_in f.store) n tended.differ (none_over (blocks_in f.store) f.most n over tended.bounded)

-- What an addition makes of the fields.
pub record Adds {A : Type 0} (f : Inside A) (block : Block) (grown : List Block) : Type 0 where
  pub tended : AreTended grown (f.count + 1) ((f.total + block.words) % 2 ^ 64) (max f.most block.words)
  pub runs : by_start grown ≡ with_new (by_start (blocks_in f.store)) block.start block.words

pub adds : {A : Type 0} (f : Inside A) (block : Block) (grown : List Block)
    → AreTended (blocks_in f.store) f.count f.total f.most
    → MayBeKept (by_start (blocks_in f.store)) (run_of block)
    → grown ≡ with_ranked (blocks_in f.store) block
    → Adds f block grown
adds f block grown tended may grows = record {
  tended = tended_with (blocks_in f.store) grown f.count f.total f.most block tended may grows;
  runs = ap by_start grows ∙ runs_with (blocks_in f.store) block tended.laid may;
}

-- The first fit may be kept beside those that stay.
fit_may_be_kept : (blocks : List Block) (n : ℕ) (found : Block) → StartsDiffer blocks → LieFrom 0 (by_start blocks)
    → first_fit blocks n ≡ Some found → MayBeKept (by_start (without_fit blocks n)) (run_of found)
fit_may_be_kept blocks n found differ laid e =
    let split = fit_splits blocks n found differ e in
    added_may_be_kept 0 found.start found.words (by_start (without_fit blocks n))
    (subst (LieFrom 0) split.0 laid) split.1

-- What a removal makes of the fields, with a fit and without one.
pub record Takes {A : Type 0} (f : Inside A) (words : ℕ) (found : Block) (rest : List Block) : Type 0 where
  pub counted : 1 ≤ f.count
  pub tended : AreTended rest (f.count - 1) ((f.total + (2 ^ 64 - found.words)) % 2 ^ 64) f.most
  pub best : IsBestFit (by_start (blocks_in f.store)) words (run_of found)
  pub runs : by_start rest ≡ without (by_start (blocks_in f.store)) found.start
  pub back : MayBeKept (by_start rest) (run_of found)

pub takes : {A : Type 0} (f : Inside A) (words : ℕ) (found : Block) (rest : List Block)
    → AreTended (blocks_in f.store) f.count f.total f.most
    → first_fit (blocks_in f.store) words ≡ Some found
    → rest ≡ without_fit (blocks_in f.store) words → found.words < 2 ^ 64 → Takes f words found rest
takes f words found rest tended e left below =
    let blocks = blocks_in f.store in
    record {
      counted = omega (arith, tended.counted, length_without blocks words found e);
      tended = tended_without blocks rest words found f.count f.total f.most tended e left below;
      best = fit_is_best blocks words found tended.ranked tended.differ e;
      runs = ap by_start left ∙ by_start-without_fit blocks words found tended.differ e;
      back = subst (λ (blocks : List Block). MayBeKept (by_start blocks) (run_of found)) (sym left)
          (fit_may_be_kept blocks words found tended.differ tended.laid e);
    }

pub record Misses {A : Type 0} (f : Inside A) (words : ℕ) (rest : List Block) : Type 0 where
  pub same : blocks_in f.store ≡ rest
  pub none : NoneFits (by_start (blocks_in f.store)) words
  pub tended : AreTended rest f.count f.total (words - 1)

pub misses : {A : Type 0} (f : Inside A) (words : ℕ) (rest : List Block)
    → AreTended (blocks_in f.store) f.count f.total f.most
    → first_fit (blocks_in f.store) words ≡ None
    → rest ≡ without_fit (blocks_in f.store) words → Misses f words rest
misses f words rest tended e left =
    let blocks = blocks_in f.store in
    let same : blocks ≡ rest = sym (left ∙ without_fit-none blocks words e) in
    record {
      same = same;
      none = none_fits blocks words tended.differ e;
      tended = subst (λ (blocks : List Block). AreTended blocks f.count f.total (words - 1)) same (record {
        ranked = tended.ranked;
        differ = tended.differ;
        laid = tended.laid;
        counted = tended.counted;
        summed = tended.summed;
        bounded = all_so _ _ blocks (λ block few. omega (arith, few)) (all_too_small blocks words e);
      });
    }

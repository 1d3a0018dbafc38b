-- What live blocks an arena holds, whoever keeps the list of them: where one is placed, written or
-- freed. The functions of `arena`, and loaders, use these.
use Rattle.std.proofs.Common.{◌≡◌, ◌≤◌, ◌<◌, ◌+◌, ◌⊎◌, ℕ, true, false, List, [], ◌∷◌, ◌++◌, length}
use Rattle.std.proofs.Common.{sym, ap, ◌∙◌, subst, inl, inr, arith, length-append}
use Rattle.std.specs.List.{All, AllByRecursion, sum_by}
use Rattle.std.proofs.lemmas.Bool.{cases_lt, or_parts}
use Rattle.std.proofs.lemmas.Bool.Decides.{nat_tests}
use Rattle.std.proofs.lemmas.List.Elements.{recursion_from_All, All-from_recursion}
use Rattle.std.proofs.lemmas.List.Folds.{list_any-append}
use Rattle.std.proofs.lemmas.List.Sums.{sum_by-cons, sum_by-append}
use Rattle.ms_base.specs.declared.span.Block.{Block}
use Rattle.ms_base.specs.Interval.{meet, meets_any}
use Rattle.ms_base.specs.State.{ArenaState}
use Rattle.ms_base.specs.Good.{IsSound}
use Rattle.ms_base.specs.Totals.{used_of, kept_of}
use Rattle.ms_base.proofs.machine.SumLemmas.{blocks_within}
use Rattle.ms_base.proofs.arena.KeptLemmas.{IsTakenOut, sound_with_live, sound_with_kept, live_taken_out}
use Rattle.ms_blocks.specs.FreeBlocks.{run_of}
use Rattle.ms_pool.specs.Account.{AreChunks}
use Rattle.ms_arena.specs.Books.{Awaits}
use Rattle.ms_arena.specs.Raw.{RawArenaView, Gains, FreesRun, Holds, IsSameRaw, RunIsThere}
use Rattle.ms_arena.specs.Words.{WordsView, IsThere, Writes}
use Rattle.ms_arena.proofs.AwaitLemmas.{fits_from, sound_alone}
use Rattle.ms_arena.proofs.ChunkLemmas.{used_small}

-- One more among others, and one less.
pub all_with : {X : Type 0} (P : X → Type 0) (b : List X) (x : X) (a : List X) → AllByRecursion P (b ++ a) → P x
    → AllByRecursion P (b ++ x ∷ a)
all_with P [] x a all it = (it, all)
all_with P (y ∷ b) x a all it = (all.0, all_with P b x a all.1 it)

pub all_but : {X : Type 0} (P : X → Type 0) (b : List X) (x : X) (a : List X) → AllByRecursion P (b ++ x ∷ a)
    → AllByRecursion P (b ++ a)
all_but P [] x a all = all.1
all_but P (y ∷ b) x a all = (all.0, all_but P b x a all.1)

pub all_at : {X : Type 0} (P : X → Type 0) (b : List X) (x : X) (a : List X) → AllByRecursion P (b ++ x ∷ a) → P x
all_at P [] x a all = all.0
all_at P (y ∷ b) x a all = all_at P b x a all.1

pub all_then : {X : Type 0} (P Q : X → Type 0) (xs : List X) → ((x : X) → P x → Q x) → AllByRecursion P xs
    → AllByRecursion Q xs
all_then P Q [] each all = tt
all_then P Q (x ∷ xs) each all = (each x all.0, all_then P Q xs each all.1)

-- The words of runs with one more.
abbrev words_of : List (ℕ × ℕ) → ℕ
words_of runs = sum_by (λ (run : ℕ × ℕ). run.1) runs

words_with : (b : List (ℕ × ℕ)) (run : ℕ × ℕ) (a : List (ℕ × ℕ)) → words_of (b ++ run ∷ a) ≡ words_of (b ++ a) + run.1
words_with b run a = omega (
  arith,
  sum_by-append (λ (run : ℕ × ℕ). run.1) b (run ∷ a),
  sum_by-cons (λ (run : ℕ × ℕ). run.1) run a,
  sum_by-append (λ (run : ℕ × ℕ). run.1) b a,
)

-- Words that are there stay there.
there_still : (old new : WordsView) (runs : List (ℕ × ℕ)) → ((word : ℕ) → IsThere old word → IsThere new word)
    → AllByRecursion (RunIsThere old) runs → AllByRecursion (RunIsThere new) runs
there_still old new runs stay all =
    all_then (RunIsThere old) (RunIsThere new) runs
    (λ run its. record { each = λ word low high. stay word (its.each word low high); ends = its.ends }) all

-- A block more is held.
pub holds_more : (old new : RawArenaView) (block : Block) (runs more b a : List (ℕ × ℕ)) → Holds old runs
    → Gains old block new → runs ≡ b ++ a → more ≡ b ++ (block.start, block.words) ∷ a → Holds new more
holds_more old new block runs more b a holds gains runs_are more_are = subst (Holds new) (sym more_are) (record {
  chunks = gains.chunks;
  sound = sound_with_live new.books b run a (fits_from new.books (b ++ a) run awaits) awaits.sound;
  counted = omega (
    arith,
    gains.count,
    holds.counted,
    ap length runs_are,
    length-append b a,
    length-append b (run ∷ a),
  );
  summed = omega (arith, gains.total, holds.summed, ap words_of runs_are, words_with b run a);
  there = All-from_recursion (RunIsThere new.words) (b ++ run ∷ a)
      (all_with (RunIsThere new.words) b run a
      (there_still old.words new.words (b ++ a) gains.opens.there
      (recursion_from_All (RunIsThere old.words) (b ++ a)
      (subst (All (RunIsThere old.words)) runs_are holds.there)))
      (record { each = gains.opens.here; ends = omega (arith, gains.awaits.ends) }));
})
  where
    run : ℕ × ℕ
    run = (block.start, block.words)

    awaits : Awaits new.books (b ++ a) run
    awaits = gains.awaits.each (b ++ a) (subst (IsSound old.books) runs_are holds.sound)

-- A block may be freed, and is held no more.
pub record MayFree (raw : RawArenaView) (block : Block) : Type 0 where
  pub some : 0 < raw.count
  pub awaits : Awaits raw.books [] (run_of block)

taken_out : (raw : RawArenaView) (block : Block) (runs b a : List (ℕ × ℕ)) → Holds raw runs
    → runs ≡ b ++ (block.start, block.words) ∷ a → IsTakenOut raw.books (b ++ a) (block.start, block.words)
taken_out raw block runs b a holds runs_are =
    live_taken_out raw.books b (block.start, block.words) a (subst (IsSound raw.books) runs_are holds.sound)

pub may_free : (raw : RawArenaView) (block : Block) (runs b a : List (ℕ × ℕ)) → Holds raw runs
    → runs ≡ b ++ (block.start, block.words) ∷ a → MayFree raw block
may_free raw block runs b a holds runs_are = record {
  some = omega (arith, holds.counted, ap length runs_are, length-append b ((block.start, block.words) ∷ a));
  awaits = record {
    sound = sound_alone raw.books (b ++ a) out.sound;
    clear = (or_parts (meets_any (run_of block) (b ++ a)) (meets_any (run_of block) raw.books.kept)
        (sym (list_any-append (λ (r : ℕ × ℕ). meet block.start block.words r.0 r.1) (b ++ a) raw.books.kept)
        ∙ out.fits.clear)).1;
    used = out.fits.used;
    long = out.fits.long;
  };
}
  where
    out : IsTakenOut raw.books (b ++ a) (block.start, block.words)
    out = taken_out raw block runs b a holds runs_are

pub holds_fewer : (old new : RawArenaView) (block : Block) (runs fewer b a : List (ℕ × ℕ)) → Holds old runs
    → FreesRun old block new → runs ≡ b ++ (block.start, block.words) ∷ a → fewer ≡ b ++ a → Holds new fewer
holds_fewer old new block runs fewer b a holds frees runs_are fewer_are = subst (Holds new) (sym fewer_are) (record {
  chunks = subst (λ (raw : RawArenaView). AreChunks raw.space raw.books.chunks) (sym frees) holds.chunks;
  sound = subst (λ (books : ArenaState). IsSound books (b ++ a)) (sym (ap (λ (raw : RawArenaView). raw.books) frees))
      (sound_with_kept old.books (b ++ a) run out.fits out.sound);
  counted = omega (
    arith,
    ap (λ (raw : RawArenaView). raw.count) frees,
    holds.counted,
    ap length runs_are,
    length-append b a,
    length-append b (run ∷ a),
  );
  summed = omega (
    arith,
    ap (λ (raw : RawArenaView). raw.total) frees,
    holds.summed,
    ap words_of runs_are,
    words_with b run a,
    its.ends,
  );
  there = All-from_recursion (RunIsThere new.words) (b ++ a)
      (there_still old.words new.words (b ++ a)
      (λ word there. subst (λ (raw : RawArenaView). IsThere raw.words word) (sym frees) there)
      (all_but (RunIsThere old.words) b run a all));
})
  where
    run : ℕ × ℕ
    run = (block.start, block.words)

    out : IsTakenOut old.books (b ++ a) run
    out = taken_out old block runs b a holds runs_are

    all : AllByRecursion (RunIsThere old.words) (b ++ run ∷ a)
    all = recursion_from_All (RunIsThere old.words) (b ++ run ∷ a)
        (subst (All (RunIsThere old.words)) runs_are holds.there)

    its : RunIsThere old.words run
    its = all_at (RunIsThere old.words) b run a all

-- The words of a block that is held are there.
pub run_there : (raw : RawArenaView) (run : ℕ × ℕ) (runs b a : List (ℕ × ℕ)) → Holds raw runs → runs ≡ b ++ run ∷ a
    → RunIsThere raw.words run
run_there raw run runs b a holds runs_are =
    all_at (RunIsThere raw.words) b run a
    (recursion_from_All (RunIsThere raw.words) (b ++ run ∷ a)
    (subst (All (RunIsThere raw.words)) runs_are holds.there))

-- All are held still where nothing else changes, and where a word is written.
holds_alike : (old new : RawArenaView) (runs : List (ℕ × ℕ)) → new ≡ record old { words = new.words }
    → ((word : ℕ) → IsThere old.words word → IsThere new.words word) → Holds old runs → Holds new runs
holds_alike old new runs same stay holds = record {
  chunks = subst (λ (raw : RawArenaView). AreChunks raw.space raw.books.chunks) (sym same) holds.chunks;
  sound = subst (λ (books : ArenaState). IsSound books runs) (sym (ap (λ (raw : RawArenaView). raw.books) same)) holds.sound;
  counted = ap (λ (raw : RawArenaView). raw.count) same ∙ holds.counted;
  summed = ap (λ (raw : RawArenaView). raw.total) same ∙ holds.summed;
  there = All-from_recursion (RunIsThere new.words) runs
      (there_still old.words new.words runs stay (recursion_from_All (RunIsThere old.words) runs holds.there));
}

pub holds_same : (old new : RawArenaView) (runs : List (ℕ × ℕ)) → IsSameRaw old new → Holds old runs → Holds new runs
holds_same old new runs same holds =
    holds_alike old new runs same.rest (λ word there. rw (same.words.positions word) there) holds

pub holds_written : (old new : RawArenaView) (runs : List (ℕ × ℕ)) (word value : ℕ) → new ≡ record old { words = new.words }
    → Writes old.words word value new.words → Holds old runs → Holds new runs
holds_written old new runs word value same writes holds =
    holds_alike old new runs same (λ word there. rw (writes.positions word) there) holds

-- The words of the blocks that are held, and that with free blocks they are no more than are in
-- use.
pub record IsWithin (raw : RawArenaView) (runs : List (ℕ × ℕ)) : Type 0 where
  pub total : raw.total ≡ sum_by (λ (run : ℕ × ℕ). run.1) runs
  pub fit : raw.total + kept_of raw.books ≤ used_of raw.books

pub held_within : (raw : RawArenaView) (runs : List (ℕ × ℕ)) → Holds raw runs → IsWithin raw runs
held_within raw runs holds = record {
  total = exact;
  fit = omega (arith, exact, blocks_within raw.books runs holds.sound);
}
  where
    exact : raw.total ≡ words_of runs
    exact = omega (
      arith,
      holds.summed,
      blocks_within raw.books runs holds.sound,
      used_small raw.space raw.books runs holds.chunks holds.sound,
    )

-- Another run lies clear of a run: none of its words is one of the run's.
abbrev pub IsClear : ℕ × ℕ → ℕ × ℕ → Type 0
IsClear run other = meet run.0 run.1 other.0 other.1 ≡ false

pub clear_words : (run other : ℕ × ℕ) (word : ℕ) → IsClear run other → other.0 ≤ word → word < other.0 + other.1
    → 0 < run.1 → (word < run.0) ⊎ (run.0 + run.1 ≤ word)
clear_words run other word clear low high some = elim (cases_before run.0 run.1 other.0 other.1 clear) [
  | inl before ↦ inr (omega (arith, before, low))
  | inr after ↦ inl (omega (arith, after, high))
]
  where
    met : (a m b n : ℕ) → b < a + m → a < b + n → meet a m b n ≡ false → ⊥
    met a m b n less below e = let yes : meet a m b n ≡ true = grind (arith, nat_tests) in absurd (cc (yes, e))

    cases_before : (a m b n : ℕ) → meet a m b n ≡ false → (a + m ≤ b) ⊎ (b + n ≤ a)
    cases_before a m b n e = elim (cases_lt b (a + m)) [
      | inl less ↦ elim (cases_lt a (b + n)) [
        | inl below ↦ absurd (met a m b n less below e)
        | inr past ↦ inr past
      ]
      | inr past ↦ inl past
    ]

each_clear : (run : ℕ × ℕ) (runs : List (ℕ × ℕ)) → meets_any run runs ≡ false → AllByRecursion (IsClear run) runs
each_clear run [] none = tt
each_clear run (other ∷ runs) none =
    let both = or_parts (meet run.0 run.1 other.0 other.1) (meets_any run runs) none in
    (both.0, each_clear run runs both.1)

of_live : (run : ℕ × ℕ) (live kept : List (ℕ × ℕ)) → meets_any run (live ++ kept) ≡ false
    → AllByRecursion (IsClear run) live
of_live run live kept clear =
    each_clear run live
    (or_parts (meets_any run live) (meets_any run kept)
    (sym (list_any-append (λ (r : ℕ × ℕ). meet run.0 run.1 r.0 r.1) live kept) ∙ clear)).0

-- The blocks that are held lie clear of one that comes, and of each other.
pub clear_of_new : (old new : RawArenaView) (block : Block) (runs : List (ℕ × ℕ)) → Holds old runs → Gains old block new
    → AllByRecursion (IsClear (block.start, block.words)) runs
clear_of_new old new block runs holds gains =
    of_live (block.start, block.words) runs new.books.kept (gains.awaits.each runs holds.sound).clear

pub clear_of_each : (raw : RawArenaView) (block : Block) (runs b a : List (ℕ × ℕ)) → Holds raw runs
    → runs ≡ b ++ (block.start, block.words) ∷ a → AllByRecursion (IsClear (block.start, block.words)) (b ++ a)
clear_of_each raw block runs b a holds runs_are =
    of_live (block.start, block.words) (b ++ a) raw.books.kept (taken_out raw block runs b a holds runs_are).fits.clear

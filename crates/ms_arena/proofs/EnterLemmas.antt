-- An arena's blocks once one enters or goes. For `Arena::place`, `alloc` and `free`.
use Rattle.std.proofs.Common.{◌≡◌, ◌≤◌, ℕ, Bool, true, Option, Some, None, List}
use Rattle.std.proofs.Common.{◌++◌, replicate, refl, sym, ap, ◌∙◌, inl, inr, arith}
use Rattle.std.specs.Prelude.{nat_le}
use Rattle.std.specs.List.{list_all}
use Rattle.std.proofs.lemmas.Bool.{and_parts, leb-true}
use Rattle.std.proofs.lemmas.Bool.Decides.{nat_tests}
use Rattle.std.proofs.lemmas.List.Elements.{recursion_from_All}
use Rattle.std.proofs.lemmas.List.Folds.{list_all-append}
use Rattle.std.proofs.lemmas.List.Sums.{AllPass-from_list_all}
use Rattle.ms_base.specs.declared.span.Block.{Block}
use Rattle.ms_base.specs.Hashed.{by_name}
use Rattle.ms_base.specs.Interval.{meet}
use Rattle.ms_base.specs.Names.{named, with_new, without}
use Rattle.ms_base.proofs.entries.EntryLemmas.{Split, split_at, Gap, gap_at}
use Rattle.ms_base.proofs.entries.HashedLemmas.{Sets, without_by_name}
use Rattle.ms_arena.specs.Arena.{FreesBlock}
use Rattle.ms_arena.specs.Raw.{RawArenaView, Gains, FreesRun, Holds, contents_at, live_in, with_live}
use Rattle.ms_arena.specs.Words.{value_at}
use Rattle.ms_arena.proofs.HoldLemmas.{IsClear, clear_of_new}
use Rattle.ms_arena.proofs.ContentsLemmas.{contents_stay}
use Rattle.ms_arena.proofs.HoldLemmas.{all_then, clear_words, holds_fewer, holds_more}
use Rattle.ms_arena.proofs.ContentsLemmas.{contents_zero}
use Rattle.ms_arena.proofs.ArenaLemmas.{shown, named_live, is_live, all_named, Shows, live_stays, new_live}
use Rattle.ms_arena.proofs.ArenaLemmas.{without_live}

-- No live block starts where one that is placed does.
abbrev is_two : ℕ × ℕ → Bool
is_two run = nat_le 2 run.1

meets_itself : (a m n : ℕ) → 2 ≤ m → 2 ≤ n → meet a m a n ≡ true
meets_itself a m n h k = grind (arith, nat_tests)

is_long : (runs kept : List (ℕ × ℕ)) (start n : ℕ) → list_all is_two (runs ++ kept) ≡ true → named runs start ≡ Some n
    → 2 ≤ n
is_long runs kept start n all found =
    leb-true 2 n (all_named (λ (run : ℕ × ℕ). is_two run ≡ true) runs start n
    (recursion_from_All (λ (run : ℕ × ℕ). is_two run ≡ true) runs
    (AllPass-from_list_all is_two runs
    (and_parts (list_all is_two runs) (list_all is_two kept) (sym (list_all-append is_two runs kept) ∙ all)).0)) found)

none_starts_there : (old new : RawArenaView) (block : Block) (runs : List (ℕ × ℕ)) → Holds old runs → Gains old block new
    → named runs block.start ≡ None
none_starts_there old new block runs holds gains = none (named runs block.start) refl
  where
    none : (found : Option ℕ) → named runs block.start ≡ found → named runs block.start ≡ None
    none None is = is
    none (Some n) is =
        let clear = all_named (IsClear (block.start, block.words)) runs block.start n
        (clear_of_new old new block runs holds gains) is in
        let meets = meets_itself block.start block.words n (gains.awaits.each runs holds.sound).long
        (is_long runs old.books.kept block.start n holds.sound.long is) in
        absurd (cc (clear, meets))

-- A block that is placed: the list has it then, and what is shown.
pub record Enters (old new : RawArenaView) (block : Block) (runs more : List (ℕ × ℕ)) : Type 0 where
  pub holds : Holds new more
  pub fresh : named (live_in old.words runs) block.start ≡ None
  pub live : live_in new.words more ≡ with_new (live_in old.words runs) block.start (replicate block.words 0)

pub enters : (old new : RawArenaView) (block : Block) (runs made more : List (ℕ × ℕ)) → Holds old runs → Gains old block new
    → made ≡ runs → more ≡ with_new made block.start block.words → Enters old new block runs more
enters old new block runs made more holds gains same more_are = record {
  holds = holds_more old new block runs more gap.before gap.after holds gains gap.is (is ∙ gap.made block.words);
  fresh = named_live old.words runs block.start ∙ ap (shown old.words block.start) none;
  live = ap (live_in new.words) is ∙ new_live new.words runs block.start block.words
      ∙ ap (λ (l : List (ℕ × List ℕ)). with_new l block.start (contents_at new.words run))
      (live_stays old.words new.words runs
      (all_then (IsClear run) (Shows old.words new.words) runs each (clear_of_new old new block runs holds gains)))
      ∙ ap (λ (contents : List ℕ). with_new (live_in old.words runs) block.start contents)
      (contents_zero (value_at new.words) run gains.opens.zero);
}
  where
    run : ℕ × ℕ
    run = (block.start, block.words)

    is : more ≡ with_new runs block.start block.words
    is = more_are ∙ ap (λ (l : List (ℕ × ℕ)). with_new l block.start block.words) same

    none : named runs block.start ≡ None
    none = none_starts_there old new block runs holds gains

    gap : Gap runs block.start
    gap = gap_at runs block.start none

    each : (other : ℕ × ℕ) → IsClear run other → Shows old.words new.words other
    each other clear =
        contents_stay (value_at old.words) (value_at new.words) other
        (λ word low high. elim (clear_words run other word clear low high
        (omega (arith, (gains.awaits.each runs holds.sound).long))) [
          | inl before ↦ gains.opens.before word before
          | inr after ↦ gains.opens.after word after
        ])

-- A live block that goes.
pub record Goes (old new : RawArenaView) (block : Block) (runs fewer : List (ℕ × ℕ)) : Type 0 where
  pub holds : Holds new fewer
  pub frees : FreesBlock (with_live old (live_in old.words runs)) block (with_live new (live_in new.words fewer))

pub goes : (old new : RawArenaView) (block : Block) (was is : List (ℕ × ℕ)) → Holds old (by_name was)
    → FreesRun old block new → named (by_name was) block.start ≡ Some block.words → Sets was is block.start None
    → Goes old new block (by_name was) (by_name is)
goes old new block was is holds frees found sets = record {
  holds = holds_fewer old new block runs (by_name is) split.before split.after holds frees split.is
      (fewer ∙ split.gone);
  frees = record {
    contents = contents_at old.words (block.start, block.words);
    live = is_live old runs block found;
    after = ap (λ (live : List (ℕ × List ℕ)). with_live new live)
        (ap (live_in new.words) fewer
        ∙ ap (λ (raw : RawArenaView). live_in raw.words (without runs block.start)) frees
        ∙ without_live old.words runs block.start)
        ∙ ap (λ (raw : RawArenaView). with_live raw (without (live_in old.words runs) block.start)) frees;
  };
}
  where
    runs : List (ℕ × ℕ)
    runs = by_name was

    fewer : by_name is ≡ without runs block.start
    fewer = without_by_name was is block.start sets

    split : Split runs block.start block.words
    split = split_at runs block.start block.words found

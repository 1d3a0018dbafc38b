-- What an arena's live blocks are where one is placed, written or freed, from what the arena below
-- says of it. The functions of `arena` use these.
use Rattle.std.proofs.Common.{◌≡◌, ◌≢◌, ◌<◌, ◌+◌, ℕ, true, false, cond, Option, Some, None, List, [], ◌∷◌}
use Rattle.std.proofs.Common.{length, map, refl, sym, ap, ◌∙◌, subst, inl, inr, arith, option_map}
use Rattle.std.specs.Prelude.{◌^◌, slice_set, IfErr, IsErrAnd, Result}
use Rattle.std.specs.List.{AllByRecursion}
use Rattle.std.specs.Map.{keys_of}
use Rattle.std.specs.Ordering.{nat_cmp, is_eq, match_ordering}
use Rattle.std.specs.declared.cmp.Ordering.TheVariants.{Less, Equal, Greater}
use Rattle.std.specs.BTreeMap.{is_at}
use Rattle.std.proofs.lemmas.Bool.{cases_eq}
use Rattle.std.proofs.lemmas.List.Elements.{recursion_from_All}
use Rattle.std.proofs.lemmas.Result.{err_from_is_err_and}
use Rattle.ms_base.specs.declared.span.Block.{Block}
use Rattle.ms_base.specs.Names.{AreNamed, named, with_new, with_changed, without}
use Rattle.ms_base.proofs.entries.EntryLemmas.{Split, split_at, same_name, rises_with_changed}
use Rattle.ms_base.proofs.entries.LookupLemmas.{named_changed_same, named_changed_other, named_without_other}
use Rattle.ms_base.proofs.events.SeenEntryLemmas.{same_entries}
use Rattle.ms_base.specs.declared.refusal.Refusal.{Refusal}
use Rattle.ms_arena.specs.Arena.{ArenaView, IsLive, IsNotLive, LacksWord, WordRefused, WritesWord, live_run}
use Rattle.ms_arena.specs.Raw.{RawArenaView, Holds, RunIsThere, contents_at, live_in, with_live}
use Rattle.ms_arena.specs.Words.{IsThere, WordsView, StayWords, Writes, value_at}
use Rattle.ms_arena.proofs.HoldLemmas.{IsClear, clear_of_each}
use Rattle.ms_arena.proofs.ContentsLemmas.{contents_long, contents_stay}
use Rattle.ms_arena.proofs.HoldLemmas.{clear_words}
use Rattle.ms_arena.proofs.ContentsLemmas.{contents_set}

-- What the live blocks show of the words of a start.
abbrev pub shown : WordsView → ℕ → Option ℕ → Option (List ℕ)
shown words start found = option_map (λ (n : ℕ). contents_at words (start, n)) found

pub named_live : (words : WordsView) (runs : List (ℕ × ℕ)) (start : ℕ)
    → named (live_in words runs) start ≡ shown words start (named runs start)
named_live words [] start = refl
named_live words (run ∷ runs) start =
    elim (is_at (nat_cmp start) run.0) as (λ b. is_at (nat_cmp start) run.0 ≡ b
    → cond b (Some (contents_at words run)) (named (live_in words runs) start)
    ≡ shown words start (cond b (Some run.1) (named runs start))) [
      | true ↦ λ at_it. ap (λ (s : ℕ). Some (contents_at words (s, run.1))) (same_name start run.0 at_it)
      | false ↦ λ past. named_live words runs start
    ] refl

keys_live : (words : WordsView) (runs : List (ℕ × ℕ)) → keys_of (live_in words runs) ≡ keys_of runs
keys_live words [] = refl
keys_live words (run ∷ runs) = ap (λ (l : List ℕ). run.0 ∷ l) (keys_live words runs)

pub rises_live : (words : WordsView) (runs : List (ℕ × ℕ)) → AreNamed runs → AreNamed (live_in words runs)
rises_live words runs rises = rw (keys_live words runs) rises

-- The runs of what is shown.
pub runs_live : (words : WordsView) (runs : List (ℕ × ℕ)) → map live_run (live_in words runs) ≡ runs
runs_live words [] = refl
runs_live words (run ∷ runs) =
    ap (λ (n : ℕ). (run.0, n) ∷ map live_run (live_in words runs)) (contents_long (value_at words) run)
    ∙ ap (λ (l : List (ℕ × ℕ)). run ∷ l) (runs_live words runs)

-- A block is live where it is in the list with its words, and else it is not.
pub is_live : (raw : RawArenaView) (runs : List (ℕ × ℕ)) (block : Block) → named runs block.start ≡ Some block.words
    → IsLive (with_live raw (live_in raw.words runs)) block (contents_at raw.words (block.start, block.words))
is_live raw runs block found = record {
  found = named_live raw.words runs block.start ∙ ap (shown raw.words block.start) found;
  words = sym (contents_long (value_at raw.words) (block.start, block.words));
}

has_words : (words : WordsView) (start n : ℕ) (found : Option ℕ) (contents : List ℕ)
    → shown words start found ≡ Some contents → n ≡ length contents → found ≡ Some n
has_words words start n None contents is long = absurd (cc)
has_words words start n (Some m) contents is long =
    let same : contents_at words (start, m) ≡ contents = cc in
    ap (λ (n : ℕ). Some n)
    (sym (contents_long (value_at words) (start, m)) ∙ ap (λ (l : List ℕ). length l) same ∙ sym long)

pub is_not_live : (raw : RawArenaView) (runs : List (ℕ × ℕ)) (block : Block)
    → (named runs block.start ≡ Some block.words → false ≡ true)
    → IsNotLive (with_live raw (live_in raw.words runs)) block
is_not_live raw runs block none = λ contents live.
    let e : false ≡ true = none (has_words raw.words block.start block.words (named runs block.start) contents
    (sym (named_live raw.words runs block.start) ∙ live.found) live.words) in
    absurd (cc (e))

-- A run lacks a word, so its block does.
lacks_word : (raw : RawArenaView) (runs : List (ℕ × ℕ)) (block : Block) (index : ℕ) (refusal : Refusal)
    → LacksWord runs block index refusal
    → WordRefused (with_live raw (live_in raw.words runs)) block index refusal
lacks_word raw runs block index refusal lacks =
    elim lacks [
      | inl none ↦
          subst (WordRefused (with_live raw (live_in raw.words runs)) block index) (sym none.0)
          (is_not_live raw runs block (λ found. absurd (none.1 found)))
      | inr past ↦
          let live = is_live raw runs block past.1 in
          subst (WordRefused (with_live raw (live_in raw.words runs)) block index) (sym past.0) (record {
            contents = contents_at raw.words (block.start, block.words);
            live = live;
            words_are = live.words;
            past = past.2;
          })
    ]

-- What holds of all holds of the one that has a name.
pub all_named : (P : ℕ × ℕ → Type 0) (runs : List (ℕ × ℕ)) (name n : ℕ) → AllByRecursion P runs
    → named runs name ≡ Some n → P (name, n)
all_named P [] name n all found = absurd (cc)
all_named P (run ∷ runs) name n all found =
    elim (is_at (nat_cmp name) run.0) as (λ b. is_at (nat_cmp name) run.0 ≡ b
    → cond b (Some run.1) (named runs name) ≡ Some n → P (name, n)) [
      | true ↦ λ here found. subst (λ (m : ℕ). P (name, m)) (let same : run.1 ≡ n = cc in same)
          (subst (λ (s : ℕ). P (s, run.1)) (same_name name run.0 here) all.0)
      | false ↦ λ past found. all_named P runs name n all.1 found
    ] refl found

-- The words of a run, and of all runs, stay.
abbrev pub Shows : WordsView → WordsView → ℕ × ℕ → Type 0
Shows old new run = contents_at new run ≡ contents_at old run

pub live_stays : (old new : WordsView) (runs : List (ℕ × ℕ)) → AllByRecursion (Shows old new) runs
    → live_in new runs ≡ live_in old runs
live_stays old new [] all = refl
live_stays old new (run ∷ runs) all =
    ap (λ (contents : List ℕ). (run.0, contents) ∷ live_in new runs) all.0
    ∙ ap (λ (l : List (ℕ × List ℕ)). (run.0, contents_at old run) ∷ l) (live_stays old new runs all.1)

pub live_same : (old new : WordsView) (runs made : List (ℕ × ℕ)) → StayWords old new → made ≡ runs
    → live_in new made ≡ live_in old runs
live_same old new runs made stay is = ap (live_in new) is ∙ live_stays old new runs (each runs)
  where
    each : (runs : List (ℕ × ℕ)) → AllByRecursion (Shows old new) runs
    each [] = tt
    each (run ∷ runs) =
        (contents_stay (value_at old) (value_at new) run (λ word low high. stay.values word), each runs)

-- One more, and one less.
pub new_live : (words : WordsView) (runs : List (ℕ × ℕ)) (start n : ℕ)
    → live_in words (with_new runs start n) ≡ with_new (live_in words runs) start (contents_at words (start, n))
new_live words [] start n = refl
new_live words (run ∷ runs) start n =
    elim (nat_cmp start run.0) as (λ o. nat_cmp start run.0 ≡ o
    → live_in words (match_ordering o ((start, n) ∷ run ∷ runs) ((run.0, n) ∷ runs) (run ∷ with_new runs start n))
    ≡ match_ordering o ((start, contents_at words (start, n)) ∷ live_in words (run ∷ runs))
    ((run.0, contents_at words (start, n)) ∷ live_in words runs)
    ((run.0, contents_at words run) ∷ with_new (live_in words runs) start (contents_at words (start, n)))) [
      | Less ↦ λ p. refl
      | Equal ↦ λ p. ap (λ (s : ℕ). (run.0, contents_at words (s, n)) ∷ live_in words runs)
          (same_name start run.0 (ap is_eq p))
      | Greater ↦ λ p. ap (λ (l : List (ℕ × List ℕ)). (run.0, contents_at words run) ∷ l) (new_live words runs start n)
    ] refl

pub without_live : (words : WordsView) (runs : List (ℕ × ℕ)) (start : ℕ)
    → live_in words (without runs start) ≡ without (live_in words runs) start
without_live words [] start = refl
without_live words (run ∷ runs) start =
    elim (is_at (nat_cmp start) run.0) as (λ b. live_in words (cond b runs (run ∷ without runs start))
    ≡ cond b (live_in words runs) ((run.0, contents_at words run) ∷ without (live_in words runs) start)) [
      | true ↦ refl
      | false ↦ ap (λ (l : List (ℕ × List ℕ)). (run.0, contents_at words run) ∷ l) (without_live words runs start)
    ]

-- The refusal is handed on.
pub refused_so : {T : Type 0} (raw : RawArenaView) (runs : List (ℕ × ℕ)) (block : Block) (index : ℕ) (now : ArenaView)
    (refusal : Refusal) (result : Result T Refusal) → with_live raw (live_in raw.words runs) ≡ now
    → IsErrAnd result (λ told. told ≡ refusal) → LacksWord runs block index refusal
    → IfErr result (λ told. WordRefused now block index told)
refused_so raw runs block index now refusal result seen told lacks =
    let is = err_from_is_err_and result told in
    rw (is.1, is.2, ← seen) (lacks_word raw runs block index refusal lacks)

-- A word of a live block is a word number, and is there.
pub record WordIsThere (words : WordsView) (word : ℕ) : Type 0 where
  pub fits : word < 2 ^ 64
  pub there : IsThere words word

pub word_is_there : (raw : RawArenaView) (block : Block) (index : ℕ) (runs : List (ℕ × ℕ)) → Holds raw runs
    → named runs block.start ≡ Some block.words → index < block.words
    → WordIsThere raw.words (block.start + index)
word_is_there raw block index runs holds found within =
    let run : RunIsThere raw.words (block.start, block.words) =
    all_named (RunIsThere raw.words) runs block.start block.words
    (recursion_from_All (RunIsThere raw.words) runs holds.there) found in record {
      fits = omega (arith, run.ends, within);
      there = run.each (block.start + index) (omega arith) (omega (arith, within));
    }

-- It is written.
pub writes : (old new : RawArenaView) (block : Block) (index value : ℕ) (runs : List (ℕ × ℕ)) → Holds old runs
    → AreNamed runs → named runs block.start ≡ Some block.words → index < block.words
    → Writes old.words (block.start + index) value new.words → new ≡ record old { words = new.words }
    → WritesWord (with_live old (live_in old.words runs)) block index value (with_live new (live_in new.words runs))
writes old new block index value runs holds rises found within word rest = record {
  contents = contents_at old.words run;
  live = is_live old runs block found;
  within = omega (arith, within, (is_live old runs block found).words);
  after = ap (λ (live : List (ℕ × List ℕ)). with_live new live) changed
      ∙ ap (λ (raw : RawArenaView). with_live raw (with_changed (live_in old.words runs) block.start contents)) rest;
}
  where
    run : ℕ × ℕ
    run = (block.start, block.words)

    contents : List ℕ
    contents = slice_set (contents_at old.words run) index value

    split : Split runs block.start block.words
    split = split_at runs block.start block.words found

    stays : (start : ℕ) (found : Option ℕ) → block.start ≢ start → named runs start ≡ found
        → shown new.words start found ≡ shown old.words start found
    stays start None differ is = refl
    stays start (Some n) differ is =
        let clear : IsClear run (start, n) = all_named (IsClear run) (without runs block.start) start n
        (subst (AllByRecursion (IsClear run)) (sym split.gone)
        (clear_of_each old block runs split.before split.after holds split.is))
        (named_without_other runs block.start start differ ∙ is) in
        ap (λ (contents : List ℕ). Some contents)
        (contents_stay (value_at old.words) (value_at new.words) (start, n)
        (λ other low high. word.others other
        (λ same. elim (clear_words run (start, n) other clear low high (omega (arith, within))) [
          | inl before ↦ absurd (omega (arith, before, same))
          | inr after ↦ absurd (omega (arith, after, same, within))
        ])))

    changed : live_in new.words runs ≡ with_changed (live_in old.words runs) block.start contents
    changed = same_entries (live_in new.words runs) (with_changed (live_in old.words runs) block.start contents)
        (rises_live new.words runs rises)
        (rises_with_changed (live_in old.words runs) block.start contents (rises_live old.words runs rises))
        (λ start. elim (cases_eq block.start start) [
          | inl same ↦ ap (named (live_in new.words runs)) (sym same) ∙ named_live new.words runs block.start
              ∙ ap (shown new.words block.start) found
              ∙ ap (λ (contents : List ℕ). Some contents)
              (contents_set (value_at old.words) (value_at new.words) run index value within word.written word.others)
              ∙ sym (named_changed_same (live_in old.words runs) block.start (contents_at old.words run) contents
              (is_live old runs block found).found)
              ∙ ap (named (with_changed (live_in old.words runs) block.start contents)) same
          | inr differ ↦ named_live new.words runs start ∙ stays start (named runs start) differ refl
              ∙ sym (named_live old.words runs start)
              ∙ sym (named_changed_other (live_in old.words runs) block.start contents start differ)
        ])

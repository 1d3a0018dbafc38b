-- What a loader's calls do to it, from what its arena of a space does.
use Rattle.std.proofs.Common.{◌≡◌, ◌<◌, ◌≤◌, ◌+◌, ◌^◌, ℕ, true, Some, List, ◌∷◌, ◌++◌, length, refl, sym, ap, ◌∙◌, subst}
use Rattle.std.proofs.Common.{arith, inl, inr}
use Rattle.std.specs.Prelude.{slice_set}
use Rattle.std.specs.List.{AllByRecursion}
use Rattle.ms_base.specs.declared.kind.Space.{Space}
use Rattle.ms_base.specs.declared.kind.Space.TheVariants.{NonClass, Class}
use Rattle.ms_base.specs.declared.span.Block.{Block}
use Rattle.ms_base.specs.Live.{LiveBlock}
use Rattle.ms_base.specs.Spaces.{is_in, other_space}
use Rattle.ms_base.specs.Names.{named, with_new, with_changed, without}
use Rattle.ms_base.specs.State.{ArenaState, LoaderState, arena_of, with_arena}
use Rattle.ms_base.specs.Transition.{with_block, with_freed}
use Rattle.ms_base.proofs.entries.EntryLemmas.{Split, split_at, rises_without}
use Rattle.ms_base.proofs.arena.BlockLemmas.{not_in_other}
use Rattle.ms_arena.specs.Raw.{RawArenaView, FreesRun, Holds, RunIsThere, contents_at}
use Rattle.ms_arena.specs.Words.{WordsView, Writes, value_at}
use Rattle.ms_arena.proofs.HoldLemmas.{IsClear, MayFree, clear_of_each, holds_fewer, holds_written, may_free}
use Rattle.ms_arena.proofs.ContentsLemmas.{contents_long}
use Rattle.ms_arena.proofs.HoldLemmas.{run_there}
use Rattle.ms_arena.proofs.ContentsLemmas.{word_in_contents}
use Rattle.ms_loader.specs.Loader.{LoaderView, with_state, HasWord, WritesWord, FreesBlock, IsPastEnd}
use Rattle.ms_loader.specs.Naming.{BlockNames}
use Rattle.ms_loader.specs.LoaderInside.{live_at, blocks_of, named_runs, IsLoader, view_of}
use Rattle.ms_loader.specs.declared.loader.Loader.TheInside.{Inside}
use Rattle.ms_loader.proofs.MappedLemmas.{found-mapped, without-mapped}
use Rattle.ms_loader.proofs.calls.NamedRunLemmas.{contents_here, here, where_is, run_of_block, runs_here, runs_joined, runs_there}
use Rattle.ms_loader.proofs.calls.NamedRunLemmas.{written_blocks}
use Rattle.ms_loader.proofs.calls.ViewLemmas.{arena_in, books_of, is_arena, words_at}
use Rattle.ms_loader.proofs.calls.ReplacedLemmas.{with_arena_at, words_there, words_now, words_here, blocks_same}
use Rattle.ms_loader.proofs.calls.ReplacedLemmas.{replaced, changed_view, owners_stay, same_arena}

-- What becomes of a loader that changes.
pub record IsDone (a : Inside) (Done : LoaderState → Type 0) (new : Inside) : Type 0 where
  pub loader : IsLoader new
  pub done : Done (view_of new).state
  pub owners : view_of new ≡ with_state (view_of a) (view_of new).state

-- A named block, as its arena has it.
module _ (a : Inside) (its : IsLoader a) (space : Space) (name : ℕ) (block : Block)
    (found : named a.names.entries name ≡ Some block) (inside : is_in space block.start ≡ true) where
  split : Split a.names.entries name block
  split = split_at a.names.entries name block found

  abbrev arena : RawArenaView
  arena = arena_in space a

  holds : Holds arena (named_runs space a.names.entries)
  holds = (is_arena a its space).holds

  runs_with : named_runs space a.names.entries
      ≡ named_runs space split.before ++ run_of_block block ∷ named_runs space split.after
  runs_with = ap (named_runs space) split.is ∙ runs_here space split.before name block split.after inside

  runs_without : named_runs space (without a.names.entries name)
      ≡ named_runs space split.before ++ named_runs space split.after
  runs_without = ap (named_runs space) split.gone ∙ runs_joined space split.before split.after

  abbrev contents : List ℕ
  contents = contents_at arena.words (run_of_block block)

  abbrev its_block : LiveBlock
  its_block = record { start = block.start; contents = contents }

  block_is : live_at (words_at a) block ≡ its_block
  block_is = contents_here (words_at a) block space inside
      ∙ ap (λ (words : WordsView). let one : LiveBlock = record {
        start = block.start;
        contents = contents_at words (run_of_block block);
      } in one) (words_here space a)

  has : named (view_of a).state.blocks name ≡ Some its_block
  has = found-mapped (live_at (words_at a)) a.names.entries name block found
      ∙ ap (λ (one : LiveBlock). Some one) block_is

  long : length contents ≡ block.words
  long = contents_long (value_at arena.words) (run_of_block block)

  -- Its words are there, and a word that is read is one of them.
  pub its_run : RunIsThere arena.words (run_of_block block)
  its_run = run_there arena (run_of_block block) (named_runs space a.names.entries) (named_runs space split.before)
      (named_runs space split.after) holds runs_with

  pub word_is_read : (index value : ℕ) → index < block.words → value ≡ value_at arena.words (block.start + index)
      → HasWord (view_of a).state name index value
  word_is_read index value within is = record {
    found = its_block;
    has = has;
    word = word_in_contents (value_at arena.words) (run_of_block block) index within
        ∙ ap (λ (word : ℕ). Some word) (sym is);
  }

  pub index_past : (index : ℕ) → block.words ≤ index → IsPastEnd (view_of a).state name index block.words
  index_past index past = record { found = its_block; has = has; words_are = sym long; past = past }

  -- The block after a write.
  pub word_is_written : (index value : ℕ) (new : RawArenaView) → index < block.words
      → Writes arena.words (block.start + index) value new.words → new ≡ record arena { words = new.words }
      → IsDone a (WritesWord (view_of a).state name index value) (with_arena_at space a new a.names)
  word_is_written index value new within writes same = record {
    loader = replaced space a new a.names its (ap (λ (v : RawArenaView). v.space) same) (ap (λ (v : RawArenaView). v.kind) same)
        its.names
        (holds_written arena new (named_runs space a.names.entries) (block.start + index) value same writes holds) refl;
    done = record {
      found = its_block;
      has = has;
      within = omega (arith, within, long);
      after = ap (λ (v : LoaderView). v.state) is;
    };
    owners = owners_stay (view_of loader) (view_of a) (with_block (view_of a).state name after) is;
  }
    where
      loader : Inside
      loader = with_arena_at space a new a.names

      after : LiveBlock
      after = record { start = block.start; contents = slice_set contents index value }

      written : blocks_of (words_at loader) a.names.entries ≡ with_changed (view_of a).state.blocks name after
      written = written_blocks space (words_at a) (words_at loader) (words_there space a new a.names) a.names.entries
          name block index value found inside within
          (subst (λ (w : WordsView). Writes w (block.start + index) value (words_at loader space)) (sym (words_here space a))
          (subst (λ (w : WordsView). Writes arena.words (block.start + index) value w) (sym (words_now space a new a.names))
          writes))
          (subst (AllByRecursion (λ (other : ℕ × ℕ). IsClear (run_of_block block) other)) (sym runs_without)
          (clear_of_each arena block (named_runs space a.names.entries) (named_runs space split.before)
          (named_runs space split.after) holds runs_with))
          ∙ ap (λ (words : WordsView). let one : LiveBlock = record {
            start = block.start;
            contents = slice_set (contents_at words (run_of_block block)) index value;
          } in with_changed (view_of a).state.blocks name one) (words_here space a)

      is : view_of loader ≡ with_state (view_of a) (with_block (view_of a).state name after)
      is = changed_view space a new a.names (with_changed (view_of a).state.blocks name after)
          (ap (λ (v : RawArenaView). v.owner) same) (ap (λ (v : RawArenaView). v.kind) same) written
          ∙ ap (λ (books : ArenaState). with_state (view_of a)
          (with_arena space (with_block (view_of a).state name after) books))
          (ap (λ (v : RawArenaView). v.books) same ∙ sym (books_of a space))
          ∙ ap (with_state (view_of a)) (same_arena space (with_block (view_of a).state name after))

  -- The block may be freed, and is then, its name being gone.
  pub block_may_go : MayFree arena block
  block_may_go = may_free arena block (named_runs space a.names.entries) (named_runs space split.before)
      (named_runs space split.after) holds runs_with

  pub block_is_freed : (new : RawArenaView) (names : BlockNames) → names.entries ≡ without a.names.entries name
      → FreesRun arena block new
      → IsDone a (FreesBlock (view_of a).state name) (with_arena_at space a new names)
  block_is_freed new names gone frees = record {
    loader = replaced space a new names its (ap (λ (v : RawArenaView). v.space) frees) (ap (λ (v : RawArenaView). v.kind) frees)
        (rw gone (rises_without a.names.entries name its.names))
        (holds_fewer arena new block (named_runs space a.names.entries) (named_runs space names.entries)
        (named_runs space split.before) (named_runs space split.after) holds frees runs_with
        (ap (named_runs space) gone ∙ runs_without))
        (ap (named_runs (other_space space)) (gone ∙ split.gone)
        ∙ sym (runs_there (other_space space) split.before name block split.after
        (not_in_other space block.start inside))
        ∙ sym (ap (named_runs (other_space space)) split.is));
    done = record {
      found = its_block;
      has = has;
      after = ap (λ (v : LoaderView). v.state) is
          ∙ ap (λ (s : Space). with_freed s (view_of a).state name
          (with_new (arena_of s (view_of a).state).kept block.start (length contents)))
          (sym (here space block.start inside));
    };
    owners = owners_stay (view_of loader) (view_of a) after is;
  }
    where
      loader : Inside
      loader = with_arena_at space a new names

      after : LoaderState
      after = with_freed space (view_of a).state name
          (with_new (arena_of space (view_of a).state).kept block.start (length contents))

      books : new.books ≡ record (arena_of space (view_of a).state) {
        kept = with_new (arena_of space (view_of a).state).kept block.start (length contents);
      }
      books = ap (λ (v : RawArenaView). v.books) frees
          ∙ ap (λ (n : ℕ). record arena.books { kept = with_new arena.books.kept block.start n }) (sym long)
          ∙ ap (λ (b : ArenaState). record b { kept = with_new b.kept block.start (length contents) })
          (sym (books_of a space))

      is : view_of loader ≡ with_state (view_of a) after
      is = changed_view space a new names (without (view_of a).state.blocks name)
          (ap (λ (v : RawArenaView). v.owner) frees) (ap (λ (v : RawArenaView). v.kind) frees)
          (ap (blocks_of (words_at loader)) gone
          ∙ blocks_same space a new names (without a.names.entries name) (ap (λ (v : RawArenaView). v.words) frees)
          ∙ without-mapped (live_at (words_at a)) a.names.entries name)
          ∙ ap (λ (b : ArenaState). with_state (view_of a)
          (with_arena space (record (view_of a).state { blocks = without (view_of a).state.blocks name }) b)) books

-- The words of a named block end within a machine word, in whatever space it lies.
pub ends_somewhere : (a : Inside) → IsLoader a → (name : ℕ) (block : Block) → named a.names.entries name ≡ Some block
    → block.start + block.words < 2 ^ 64
ends_somewhere a its name block found = elim (where_is NonClass block.start) [
  | inl w ↦ (its_run a its NonClass name block found w.inside).ends
  | inr w ↦ (its_run a its Class name block found w.inside).ends
]

pub past_somewhere : (a : Inside) → IsLoader a → (name : ℕ) (block : Block) (index : ℕ)
    → named a.names.entries name ≡ Some block → block.words ≤ index
    → IsPastEnd (view_of a).state name index block.words
past_somewhere a its name block index found past = elim (where_is NonClass block.start) [
  | inl w ↦ index_past a its NonClass name block found w.inside index past
  | inr w ↦ index_past a its Class name block found w.inside index past
]

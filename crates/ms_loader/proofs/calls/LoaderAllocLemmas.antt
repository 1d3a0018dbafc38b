-- What a loader's allocation does to it, from what the arena of the space answers.
use Rattle.std.proofs.Common.{◌≡◌, ◌<◌, ◌+◌, ℕ, true, None, Result, Ok, Err, [], refl, sym, ap, ◌∙◌, subst, OnErr}
use Rattle.std.proofs.Common.{inl, inr, arith}
use Rattle.ms_base.specs.declared.kind.Space.{Space}
use Rattle.ms_base.specs.declared.kind.Space.TheVariants.{NonClass, Class}
use Rattle.ms_base.specs.declared.policy.Policy.{Policy}
use Rattle.ms_base.specs.declared.span.Block.{Block}
use Rattle.ms_base.specs.declared.refusal.Refusal.{Refusal}
use Rattle.ms_base.specs.declared.refusal.Refusal.TheVariants.{ZeroWords, TooLarge, OutOfMemory, BlockExists}
use Rattle.ms_base.specs.Spaces.{is_in, other_space}
use Rattle.ms_base.specs.State.{ArenaState, with_arena}
use Rattle.ms_base.specs.Names.{named, with_new}
use Rattle.ms_base.specs.Transition.{with_allocated, zeroed}
use Rattle.ms_base.proofs.arena.BlockLemmas.{not_in_other}
use Rattle.ms_base.proofs.entries.EntryLemmas.{Gap, gap_at}
use Rattle.ms_base.proofs.entries.NameLemmas.{rises_with_new}
use Rattle.ms_pool.specs.Account.{AreChunks}
use Rattle.ms_arena.specs.Alloc.{TakeRelation, GrowRelation}
use Rattle.ms_arena.specs.Raw.{RawArenaView, Gains, IsSameRaw, live_then, with_live}
use Rattle.ms_arena.specs.Words.{WordsView, Opens, value_at}
use Rattle.ms_arena.proofs.HoldLemmas.{clear_of_new, holds_more, holds_same}
use Rattle.ms_loader.specs.Loader.{with_state, IsArenaOf, AfterAlloc, NameRefused, AllocatesBlock}
use Rattle.ms_loader.specs.LoaderInside.{live_at, blocks_of, named_runs, IsLoader, view_of}
use Rattle.ms_loader.specs.Naming.{BlockNames, EnterRefused, AsksNamed, AllocatesNamed}
use Rattle.ms_loader.specs.declared.loader.Loader.TheInside.{Inside}
use Rattle.ms_loader.proofs.MappedLemmas.{found-mapped, missing-mapped}
use Rattle.ms_loader.proofs.calls.NamedRunLemmas.{blocks_stay, made_blocks, runs_here, runs_joined, runs_there}
use Rattle.ms_loader.proofs.calls.ViewLemmas.{arena_in, books_of, is_arena, words_at}
use Rattle.ms_loader.proofs.calls.LoaderSpaceLemmas.{placed_in_space}
use Rattle.ms_loader.proofs.calls.ReplacedLemmas.{with_arena_at, replaced, changed_view, same_arena, words_here, words_now}
use Rattle.ms_loader.proofs.calls.ReplacedLemmas.{words_there}

-- Why a name is not entered is why no arena is asked.
pub name_is_refused : (a : Inside) (name words : ℕ) (refusal : Refusal)
    → EnterRefused a.names.entries name words refusal → NameRefused (view_of a) name words refusal
name_is_refused a name words BlockExists its =
    (live_at (words_at a) its.0, found-mapped (live_at (words_at a)) a.names.entries name its.0 its.1)
name_is_refused a name words ZeroWords its =
    (missing-mapped (live_at (words_at a)) a.names.entries name its.0, its.1)
name_is_refused a name words TooLarge its = (missing-mapped (live_at (words_at a)) a.names.entries name its.0, its.1)
name_is_refused a name words OutOfMemory its =
    (missing-mapped (live_at (words_at a)) a.names.entries name its.0, its.1)
name_is_refused a name words _ its = absurd its.1

-- The arena of a space, as the loader has it.
pub its_arena : (space : Space) (a : Inside) → IsLoader a → IsArenaOf space (view_of a) (with_live (arena_in space a) [])
its_arena NonClass a its = record { owner = refl; space_is = its.arena.space_is; kind = refl; books = refl }
its_arena Class a its =
    record { owner = refl; space_is = its.class_arena.space_is; kind = its.class_arena.kind_is; books = refl }

-- An arena that nobody asked is as it was.
same_from : (old new : RawArenaView) → new ≡ old → IsSameRaw old new
same_from old new same = subst (IsSameRaw old) (sym same)
    (record { rest = refl; words = record { values = λ word. refl; positions = λ word. refl } })

-- What becomes of a loader that asked its arena.
record IsAsked (space : Space) (a : Inside) (name : ℕ) (arena : RawArenaView) (answer : Result Block Refusal)
    (new : Inside) : Type 0 where
  loader : IsLoader new
  follows : AfterAlloc space (view_of a) name (with_live arena (live_then [] answer)) answer (view_of new)
  unchanged : OnErr answer (view_of new ≡ view_of a)

-- What becomes of a loader that was asked for a block.
pub record IsAllocated {S : Type 0} (grew : GrowRelation S) (took : TakeRelation S) (policy : Policy) (space : Space)
    (a : Inside) (name words : ℕ) (before : S)
    (answer : Result Block Refusal) (new : Inside) (after : S) : Type 0 where
  pub loader : IsLoader new
  pub allocates : AllocatesBlock grew took policy space (view_of a) name words before answer (view_of new) after
  pub unchanged : OnErr answer (view_of new ≡ view_of a)

module _ (space : Space) (a : Inside) (its : IsLoader a) (name : ℕ) (arena : RawArenaView) (names : BlockNames) where
  made : (block : Block) → named a.names.entries name ≡ None
      → names.entries ≡ with_new a.names.entries name block → Gains (arena_in space a) block arena
      → IsAsked space a name arena (Ok block) (with_arena_at space a arena names)
  made block unused names_are gains = record {
    loader = replaced space a arena names its gains.space gains.kind
        (rw names_are (rises_with_new a.names.entries name block its.names))
        (holds_more (arena_in space a) arena block (named_runs space a.names.entries) (named_runs space names.entries)
        (named_runs space gap.before) (named_runs space gap.after) (is_arena a its space).holds gains
        (ap (named_runs space) gap.is ∙ runs_joined space gap.before gap.after)
        (ap (named_runs space) (names_are ∙ gap.made block)
        ∙ runs_here space gap.before name block gap.after inside))
        (ap (named_runs (other_space space)) (names_are ∙ gap.made block)
        ∙ runs_there (other_space space) gap.before name block gap.after (not_in_other space block.start inside)
        ∙ sym (ap (named_runs (other_space space)) gap.is));
    follows = (inside, is);
    unchanged = tt;
  }
    where
      gap : Gap a.names.entries name
      gap = gap_at a.names.entries name unused

      inside : is_in space block.start ≡ true
      inside = placed_in_space space (arena_in space a).books arena.books block.start block.words
          (named_runs space a.names.entries)
          (subst (λ (s : Space). AreChunks s arena.books.chunks) (gains.space ∙ (is_arena a its space).space_is) gains.chunks)
          (is_arena a its space).holds.sound gains.awaits

      some : 0 < block.words
      some = omega (arith, (gains.awaits.each (named_runs space a.names.entries) (is_arena a its space).holds.sound).long)

      loader : Inside
      loader = with_arena_at space a arena names

      blocks : blocks_of (words_at loader) names.entries
          ≡ with_new (view_of a).state.blocks name (zeroed block.start block.words)
      blocks = ap (blocks_of (words_at loader)) names_are
          ∙ made_blocks space (words_at a) (words_at loader) (words_there space a arena names) a.names.entries name block
          inside some
          (subst (λ (w : WordsView). Opens w block.start (block.start + block.words) (words_at loader space))
          (sym (words_here space a))
          (subst (λ (w : WordsView). Opens (arena_in space a).words block.start (block.start + block.words) w)
          (sym (words_now space a arena names)) gains.opens))
          (clear_of_new (arena_in space a) arena block (named_runs space a.names.entries)
          (is_arena a its space).holds gains)

      is : view_of loader
          ≡ with_state (view_of a)
          (with_allocated space (view_of a).state arena.books name (zeroed block.start block.words))
      is = changed_view space a arena names (with_new (view_of a).state.blocks name (zeroed block.start block.words))
          gains.owner gains.kind blocks

  none : (refusal : Refusal) → names.entries ≡ a.names.entries → IsSameRaw (arena_in space a) arena
      → IsAsked space a name arena (Err refusal) (with_arena_at space a arena names)
  none refusal names_are same = record {
    loader = replaced space a arena names its (ap (λ (v : RawArenaView). v.space) same.rest)
        (ap (λ (v : RawArenaView). v.kind) same.rest)
        (rw names_are its.names)
        (holds_same (arena_in space a) arena (named_runs space names.entries) same
        (rw names_are (is_arena a its space).holds))
        (ap (named_runs (other_space space)) names_are);
    follows = view_same;
    unchanged = view_same;
  }
    where
      loader : Inside
      loader = with_arena_at space a arena names

      blocks : blocks_of (words_at loader) names.entries ≡ (view_of a).state.blocks
      blocks = ap (blocks_of (words_at loader)) names_are
          ∙ blocks_stay space (words_at a) (words_at loader) (words_there space a arena names) a.names.entries
          (λ word. ap (λ (w : WordsView). value_at w word) (words_now space a arena names) ∙ same.words.values word
          ∙ ap (λ (w : WordsView). value_at w word) (sym (words_here space a)))

      view_same : view_of loader ≡ view_of a
      view_same = changed_view space a arena names (view_of a).state.blocks (ap (λ (v : RawArenaView). v.owner) same.rest)
          (ap (λ (v : RawArenaView). v.kind) same.rest) blocks
          ∙ ap (λ (books : ArenaState). with_state (view_of a) (with_arena space (view_of a).state books))
          (ap (λ (v : RawArenaView). v.books) same.rest ∙ sym (books_of a space))
          ∙ ap (with_state (view_of a)) (same_arena space (view_of a).state)

  asked : {S : Type 0} (grew : GrowRelation S) (took : TakeRelation S) (policy : Policy) (words : ℕ) (before : S)
      (answer : Result Block Refusal) (after : S)
      → AsksNamed grew took policy a.names.entries (arena_in space a) name words before answer names.entries arena after
      → IsAsked space a name arena answer (with_arena_at space a arena names)
  asked grew took policy words before (Ok block) after asks =
      made block asks.unused asks.names_are asks.gains
  asked grew took policy words before (Err refusal) after asks = none refusal asks.names_are asks.unchanged

  -- The whole of an allocation, from what it does to names and arena.
  pub allocated : {S : Type 0} {grew : GrowRelation S} {took : TakeRelation S} {policy : Policy} {words : ℕ}
      {before : S} {answer : Result Block Refusal} {after : S}
      → AllocatesNamed grew took policy a.names.entries (arena_in space a) name words before answer names.entries arena
      after → IsAllocated grew took policy space a name words before answer (with_arena_at space a arena names) after
  allocated {words} (inl not) = record {
    loader = done.loader;
    allocates = inl (record {
      refusal = not.refusal;
      answer_is = not.answer_is;
      cause = name_is_refused a name words not.refusal not.cause;
      loader = done.unchanged;
      source = not.source;
    });
    unchanged =
        subst (λ (r : Result Block Refusal). OnErr r (view_of (with_arena_at space a arena names) ≡ view_of a))
        (sym not.answer_is) done.unchanged;
  }
    where
      done : IsAsked space a name arena (Err not.refusal) (with_arena_at space a arena names)
      done = none not.refusal not.names_stay (same_from (arena_in space a) arena not.arena)
  allocated {grew} {took} {policy} {words} {before} {answer} {after} (inr asks) = record {
    loader = done.loader;
    allocates = inr (record {
      unused = missing-mapped (live_at (words_at a)) a.names.entries name asks.unused;
      was = with_live (arena_in space a) [];
      is = with_live arena (live_then [] answer);
      arena = its_arena space a its;
      allocates = asks.allocates [];
      follows = done.follows;
    });
    unchanged = done.unchanged;
  }
    where
      done : IsAsked space a name arena answer (with_arena_at space a arena names)
      done = asked grew took policy words before answer after asks

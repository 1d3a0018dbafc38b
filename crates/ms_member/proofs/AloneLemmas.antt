-- What a loader's allocation over a source without chunks is: a block in its own chunks, a name
-- that is refused, or a chunk that was asked for in vain.
use Rattle.std.proofs.Common.{◌≡◌, ℕ, Bool, true, false, Option, Some, None, Result, Ok, Err, refl, sym, ap, ◌∙◌, subst}
use Rattle.std.proofs.Common.{inl, inr, ◌⊎◌, OnErr, OnOk}
use Rattle.ms_base.specs.declared.kind.Space.{Space}
use Rattle.ms_base.specs.declared.policy.Policy.{Policy}
use Rattle.ms_base.specs.declared.span.Chunk.{Chunk}
use Rattle.ms_base.specs.declared.span.Span.{Span}
use Rattle.ms_base.specs.declared.span.Block.{Block}
use Rattle.ms_base.specs.declared.refusal.Refusal.{Refusal}
use Rattle.ms_base.specs.declared.refusal.Refusal.TheVariants.{ZeroWords, TooLarge, ReserveLimit}
use Rattle.ms_base.specs.declared.refusal.Refusal.TheVariants.{OutOfMemory}
use Rattle.ms_base.specs.Live.{block_words}
use Rattle.ms_base.specs.Names.{named}
use Rattle.ms_base.specs.Place.{placed, current}
use Rattle.ms_base.specs.Asks.{asks_growth}
use Rattle.ms_base.specs.State.{ArenaState}
use Rattle.ms_base.specs.Transition.{with_allocated, zeroed}
use Rattle.ms_arena.specs.Arena.{ArenaView, PlaceRefused, IsAskable, block_at}
use Rattle.ms_arena.specs.Alloc.{TakesNew, AfterTake, AfterGrow, AsksChunk, FindsPlace, Allocates}
use Rattle.ms_loader.specs.Loader.{LoaderView, AllocatesBlock, NameRefused, with_state}
use Rattle.ms_pool.specs.NoChunks.{takes_none, grows_none}
use Rattle.ms_member.specs.Member.{AnswersAlone, PlacesIn, alone_told}

-- A chunk was asked for in vain.
abbrev in_vain : Result Block Refusal → Type 0
in_vain answer = answer ≡ Err (ReserveLimit 0 0)

module _ {S : Type 0} (policy : Policy) (was : ArenaView) (n : ℕ) (answer : Result Block Refusal) (is : ArenaView)
    (after : S) where
  takes_vain : (before : S) → TakesNew takes_none policy was n before answer is after → in_vain answer
  takes_vain before its =
      (subst (λ (lent : Result Span Refusal). AfterTake policy was n lent answer is) its.asked its.follows).0

  grown_vain : (chunk : Chunk) (grown : Result Span Refusal) (middle : S) → OnOk grown ⊥
      → AfterGrow takes_none policy was chunk n grown middle answer is after → in_vain answer
  grown_vain chunk (Ok span) middle asked its = absurd asked
  grown_vain chunk (Err refusal) middle asked its = takes_vain middle its

  asks_vain : (o : Option Chunk) (b : Bool) (before : S)
      → AsksChunk grows_none takes_none policy was n o b before answer is after → in_vain answer
  asks_vain (Some chunk) true before its = grown_vain chunk its.grown its.middle its.asked its.follows
  asks_vain (Some chunk) false before its = takes_vain before its
  asks_vain None true before its = takes_vain before its
  asks_vain None false before its = takes_vain before its

  -- So where the arena has no place of its own.
  none_vain : (before : S) → FindsPlace grows_none takes_none policy was n None before answer is after
      → in_vain answer
  none_vain before its =
      asks_vain (current was.books) (asks_growth was.kind was.space was.books (current was.books) n) before its

-- Why no place is looked for is why the name is refused.
name_refused : (old : LoaderView) (block words : ℕ) (refusal : Refusal) → named old.state.blocks block ≡ None
    → PlaceRefused words refusal → NameRefused old block words refusal
name_refused old block words ZeroWords unused its = (unused, its)
name_refused old block words TooLarge unused its = (unused, its)
name_refused old block words OutOfMemory unused its = (unused, its)
name_refused old block words _ unused its = absurd its

module _ {S : Type 0} (space : Space) (policy : Policy) (old new : LoaderView) (block words : ℕ) (before after : S) where
  -- A block was made: it was placed.
  made_so : (made : Block)
      → AllocatesBlock grows_none takes_none policy space old block words before (Ok made) new after
      → PlacesIn space block words made.start old new
  made_so made (inl not) = absurd (cc)
  made_so made (inr asks) = go asks.allocates
    where
      at : (place : ℕ × ArenaState) → placed asks.was.books (block_words words) ≡ Some place → IsAskable words
          → FindsPlace grows_none takes_none policy asks.was (block_words words) (Some place) before (Ok made) asks.is
          after → PlacesIn space block words made.start old new
      at place is askable finds =
          let same : made ≡ block_at place.0 (block_words words) = cc in record {
            place = place;
            unused = asks.unused;
            askable = askable;
            placed_is = ap (λ (a : ArenaState). placed a (block_words words)) (sym asks.arena.books) ∙ is;
            start_is = ap (λ (b : Block). b.start) same;
            new_is = asks.follows.1
                ∙ ap (λ (v : ArenaView). with_state old
                (with_allocated space old.state v.books block (zeroed made.start made.words))) finds.1
                ∙ ap (λ (n : ℕ). with_state old (with_allocated space old.state place.1 block (zeroed made.start n)))
                (ap (λ (b : Block). b.words) same);
          }

      found : (o : Option (ℕ × ArenaState)) → placed asks.was.books (block_words words) ≡ o → IsAskable words
          → FindsPlace grows_none takes_none policy asks.was (block_words words) o before (Ok made) asks.is after
          → PlacesIn space block words made.start old new
      found (Some place) is askable finds = at place is askable finds
      found None is askable finds =
          let vain = none_vain policy asks.was (block_words words) (Ok made) asks.is after before finds in absurd (cc)

      go : Allocates grows_none takes_none policy asks.was words before (Ok made) asks.is after
          → PlacesIn space block words made.start old new
      go (inl refused) = let is = refused.answer_is in absurd (cc)
      go (inr its) = found (placed asks.was.books (block_words words)) refl its.0 its.1

  -- None was made: a chunk was asked for in vain, or the name was refused.
  why_not : (refusal : Refusal)
      → AllocatesBlock grows_none takes_none policy space old block words before (Err refusal) new after
      → in_vain (Err refusal) ⊎ NameRefused old block words refusal
  why_not refusal (inl not) =
      let is = not.answer_is in
      let same : not.refusal ≡ refusal = cc in inr (subst (NameRefused old block words) same not.cause)
  why_not refusal (inr asks) = go asks.allocates
    where
      found : (o : Option (ℕ × ArenaState))
          → FindsPlace grows_none takes_none policy asks.was (block_words words) o before (Err refusal) asks.is after
          → in_vain (Err refusal) ⊎ NameRefused old block words refusal
      found (Some place) finds = let is = finds.0 in absurd (cc)
      found None finds = inl (none_vain policy asks.was (block_words words) (Err refusal) asks.is after before finds)

      go : Allocates grows_none takes_none policy asks.was words before (Err refusal) asks.is after
          → in_vain (Err refusal) ⊎ NameRefused old block words refusal
      go (inl refused) =
          let is = refused.answer_is in
          let same : refused.refusal ≡ refusal = cc in
          inr (name_refused old block words refusal asks.unused
          (subst (PlaceRefused words) same refused.cause))
      go (inr its) = found (placed asks.was.books (block_words words)) its.1

  refused_so : (refusal : Refusal) → new ≡ old → in_vain (Err refusal) ⊎ NameRefused old block words refusal
      → AnswersAlone space block words old (alone_told (Err refusal)) new
  refused_so (ReserveLimit nodes limit) same why = same
  refused_so refusal same (inl vain) = absurd (cc)
  refused_so refusal same (inr so) = (so, same)

  pub answers_alone : (answer : Result Block Refusal)
      → AllocatesBlock grows_none takes_none policy space old block words before answer new after
      → OnErr answer (new ≡ old) → AnswersAlone space block words old (alone_told answer) new
  answers_alone (Ok made) its same = made_so made its
  answers_alone (Err refusal) its same = refused_so refusal same (why_not refusal its)

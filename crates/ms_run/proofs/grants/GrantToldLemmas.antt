-- What an allocation over the lock was answered: a block, or a refusal that is the request's own or
-- for want. For the lemmas of `answer`.
use Rattle.std.proofs.Common.{◌≡◌, ℕ, ◌⊎◌, Bool, true, false, Option, Some, None, Result, Ok, Err}
use Rattle.std.proofs.Common.{refl, sym, subst, inl, inr}
use Rattle.ms_base.specs.declared.kind.Space.{Space}
use Rattle.ms_base.specs.declared.policy.Policy.{Policy}
use Rattle.ms_base.specs.declared.span.Chunk.{Chunk}
use Rattle.ms_base.specs.declared.span.Span.{Span}
use Rattle.ms_base.specs.declared.span.Block.{Block}
use Rattle.ms_base.specs.declared.step.Reply.TheVariants.{Refused}
use Rattle.ms_base.specs.declared.refusal.Refusal.{Refusal}
use Rattle.ms_base.specs.declared.refusal.Refusal.TheVariants.{ZeroWords, TooLarge, CommitLimit, ReserveLimit}
use Rattle.ms_base.specs.declared.refusal.Refusal.TheVariants.{OutOfMemory, BlockExists}
use Rattle.ms_base.specs.Names.{named}
use Rattle.ms_base.specs.Live.{block_words}
use Rattle.ms_base.specs.Place.{placed, current}
use Rattle.ms_base.specs.Asks.{asks_growth}
use Rattle.ms_base.specs.State.{ArenaState}
use Rattle.ms_base.specs.Run.Alone.{OwnLoader, IsAllocWant, CanAlloc, AnswersAlloc}
use Rattle.ms_pool.specs.Tallies.{Tallies}
use Rattle.ms_arena.specs.Arena.{ArenaView, IsAskable, PlaceRefused}
use Rattle.ms_arena.specs.Alloc.{AfterTake, TakesNew, AfterGrow, AsksChunk, FindsPlace, Allocates}
use Rattle.ms_loader.specs.Loader.{LoaderView, NameRefused, AllocatesBlock}
use Rattle.ms_shared.specs.SeatView.{SeatState}
use Rattle.ms_shared.specs.LockCalls.{TakeTallies, TookOver, GrewOver}

abbrev pub own_part : LoaderView → OwnLoader
own_part loader = record { kind = loader.state.kind; blocks = loader.state.blocks }

-- What the arena was answered: a block of that many words, or a refusal that is the request's own
-- or for want.
abbrev TellsArena : ℕ → Result Block Refusal → Type 0
TellsArena words (Ok block) = IsAskable words × (block.words ≡ block_words words)
TellsArena words (Err refusal) = PlaceRefused words refusal ⊎ (IsAskable words × IsAllocWant refusal)

take_wants : (refusal : Refusal) (old new : Tallies) → TakeTallies (Err refusal) old new → IsAllocWant refusal
take_wants (CommitLimit committed limit need) old new raised = tt
take_wants (ReserveLimit nodes limit) old new raised = tt
take_wants OutOfMemory old new same = tt
take_wants _ old new never = absurd never

module _ (policy : Policy) (was : ArenaView) (words : ℕ) (answer : Result Block Refusal) (is : ArenaView)
    (after : SeatState) (askable : IsAskable words) where
  made : (block : Block) → answer ≡ Ok block → block.words ≡ block_words words → TellsArena words answer
  made block same long = subst (TellsArena words) (sym same) (askable, long)

  wanted : (refusal : Refusal) → answer ≡ Err refusal → IsAllocWant refusal → TellsArena words answer
  wanted refusal same want = subst (TellsArena words) (sym same) (inr (askable, want))

  from_take : (lent : Result Span Refusal) (old new : Tallies) → TakeTallies lent old new
      → AfterTake policy was (block_words words) lent answer is → TellsArena words answer
  from_take (Ok span) old new tallies follows = made _ follows.0 refl
  from_take (Err refusal) old new tallies follows = wanted refusal follows.0 (take_wants refusal old new tallies)

  from_takes : (before : SeatState) → TakesNew TookOver policy was (block_words words) before answer is after
      → TellsArena words answer
  from_takes before its = from_take its.lent before.knows.tallies after.knows.tallies its.asked.tallies its.follows

  from_grow : (chunk : Chunk) (grown : Result Span Refusal) (middle : SeatState)
      → AfterGrow TookOver policy was chunk (block_words words) grown middle answer is after → TellsArena words answer
  from_grow chunk (Ok span) middle its = made _ its.1 refl
  from_grow chunk (Err refusal) middle its = from_takes middle its

  from_asks : (o : Option Chunk) (b : Bool) (before : SeatState)
      → AsksChunk GrewOver TookOver policy was (block_words words) o b before answer is after → TellsArena words answer
  from_asks (Some chunk) true before its = from_grow chunk its.grown its.middle its.follows
  from_asks (Some chunk) false before its = from_takes before its
  from_asks None true before its = from_takes before its
  from_asks None false before its = from_takes before its

  from_position : (o : Option (ℕ × ArenaState)) (before : SeatState)
      → FindsPlace GrewOver TookOver policy was (block_words words) o before answer is after → TellsArena words answer
  from_position (Some place) before its = made _ its.0 refl
  from_position None before its =
      from_asks (current was.books) (asks_growth was.kind was.space was.books (current was.books) (block_words words))
      before its

pub tells : (policy : Policy) (was : ArenaView) (words : ℕ) (before : SeatState) (answer : Result Block Refusal)
    (is : ArenaView) (after : SeatState)
    → Allocates GrewOver TookOver policy was words before answer is after → TellsArena words answer
tells policy was words before answer is after (inl refused) =
    subst (TellsArena words) (sym refused.answer_is) (inl refused.cause)
tells policy was words before answer is after (inr its) =
    from_position policy was words answer is after its.0 (placed was.books (block_words words)) before its.1

-- Where no block was made, the loader's own lines say why, or it was want.
abbrev pub IsRefusedOwn : OwnLoader → Space → ℕ → ℕ → Refusal → Option OwnLoader → Type 0
IsRefusedOwn own space block words refusal after =
    AnswersAlloc own space block words (Refused refusal) after
    ⊎ (CanAlloc own block words × IsAllocWant refusal × (after ≡ Some own))

module _ (space : Space) (was : LoaderView) (block words : ℕ) where
  of_want : (refusal : Refusal) → named was.state.blocks block ≡ None → IsAskable words → IsAllocWant refusal
      → IsRefusedOwn (own_part was) space block words refusal (Some (own_part was))
  of_want refusal unused askable want = inr ((unused, askable.some, askable.fits), want, refl)

  of_position : (refusal : Refusal) → named was.state.blocks block ≡ None → PlaceRefused words refusal
      → IsRefusedOwn (own_part was) space block words refusal (Some (own_part was))
  of_position ZeroWords unused cause = inl (unused, cause, refl)
  of_position TooLarge unused cause = inl (unused, cause, refl)
  of_position OutOfMemory unused cause = of_want OutOfMemory unused cause tt
  of_position _ unused cause = absurd cause

  of_name : (refusal : Refusal) → NameRefused was block words refusal
      → IsRefusedOwn (own_part was) space block words refusal (Some (own_part was))
  of_name BlockExists cause = inl (cause.0, cause.1, refl)
  of_name ZeroWords cause = of_position ZeroWords cause.0 cause.1
  of_name TooLarge cause = of_position TooLarge cause.0 cause.1
  of_name OutOfMemory cause = of_position OutOfMemory cause.0 cause.1
  of_name _ cause = absurd cause.1

abbrev refused_as : Refusal → Result Block Refusal
refused_as refusal = Err refusal

same_refusal : (a b : Refusal) → refused_as a ≡ refused_as b → b ≡ a
same_refusal a b e = cc

pub is_answered : (space : Space) (policy : Policy) (old new : SeatState) (was is : LoaderView) (block words : ℕ)
    (refusal : Refusal)
    → AllocatesBlock GrewOver TookOver policy space was block words old (Err refusal) is new
    → IsRefusedOwn (own_part was) space block words refusal (Some (own_part is))
is_answered space policy old new was is block words refusal (inl not) =
    subst (λ (v : LoaderView). IsRefusedOwn (own_part was) space block words refusal (Some (own_part v))) (sym not.loader)
    (subst (λ (r : Refusal). IsRefusedOwn (own_part was) space block words r (Some (own_part was)))
    (same_refusal refusal not.refusal not.answer_is)
    (of_name space was block words not.refusal not.cause))
is_answered space policy old new was is block words refusal (inr asks) =
    subst (λ (v : LoaderView). IsRefusedOwn (own_part was) space block words refusal (Some (own_part v)))
    (sym asks.follows) (elim how [
      | inl place ↦ of_position space was block words refusal asks.unused place
      | inr want ↦ of_want space was block words refusal asks.unused want.0 want.1
    ])
  where
    how : PlaceRefused words refusal ⊎ (IsAskable words × IsAllocWant refusal)
    how = tells policy asks.was words old (Err refusal) asks.is new asks.allocates

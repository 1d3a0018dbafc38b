-- An allocation's outcome for the pool, read from what the arena's relation says of each call.
use Rattle.std.proofs.Common.{◌≡◌, ℕ, Bool, true, false, Option, Some, None, Result, Ok, Err, List, [], ◌∷◌, ◌++◌, map}
use Rattle.std.proofs.Common.{refl, sym, ap, ◌∙◌, subst, inl, inr}
use Rattle.std.specs.Prelude.{slice_set}
use Rattle.ms_base.specs.declared.span.Chunk.{Chunk}
use Rattle.ms_base.specs.declared.span.Span.{Span}
use Rattle.ms_base.specs.declared.span.Block.{Block}
use Rattle.ms_base.specs.declared.refusal.Refusal.{Refusal}
use Rattle.ms_base.specs.Interval.{are_apart}
use Rattle.ms_base.specs.Level.{level_that_holds}
use Rattle.ms_base.specs.Held.{words_of}
use Rattle.ms_base.specs.Live.{block_words}
use Rattle.ms_base.specs.State.{ArenaState}
use Rattle.ms_base.specs.Place.{placed, current, last_index}
use Rattle.ms_base.specs.Asks.{asks_growth, wanted_level, total_asked, may_enlarge}
use Rattle.ms_base.specs.PoolSteps.{grown}
use Rattle.ms_pool.specs.Lending.{chunk_at}
use Rattle.ms_pool.specs.Tallies.{Tallies}
use Rattle.ms_pool.specs.Ledger.{Ledger, state_in}
use Rattle.ms_pool.specs.Calls.{tallied}
use Rattle.ms_arena.specs.Arena.{ArenaView, IsAskable, account_of}
use Rattle.ms_arena.specs.Alloc.{AfterTake, TakesNew, AfterGrow, AsksChunk, FindsPlace, Allocates}
use Rattle.ms_loaders.proofs.steps.OutcomeLemmas.{IsMade, IsNotMade, Outcome, front_is, grown_is, one_there, retired_chunks}
use Rattle.ms_loaders.proofs.steps.OutcomeLemmas.{placed_chunks, TookAtAll, GrewAtAll}

module _ (was : ArenaView) (words : ℕ) (ledger : Ledger) (answer : Result Block Refusal) (is : ArenaView)
    (after : Ledger) (apart : are_apart (map words_of was.books.chunks) ≡ true) (askable : IsAskable words) where
  -- A block that is answered.
  made : (block : Block) → answer ≡ Ok block → block.words ≡ block_words words → IsMade was words ledger block is after
      → Outcome was words ledger answer is after
  made block e long its = subst (λ (a : Result Block Refusal). Outcome was words ledger a is after) (sym e) its

  not_made : (refusal : Refusal) → answer ≡ Err refusal → IsNotMade was words ledger refusal after
      → Outcome was words ledger answer is after
  not_made refusal e its = subst (λ (a : Result Block Refusal). Outcome was words ledger a is after) (sym e) its

  -- A chunk is asked for, from the pool as it was but for tallies.
  from_take : (tallies : Tallies) (lent : Result Span Refusal)
      → TookAtAll (tallied ledger tallies) (account_of was) (wanted_level was.kind was.space was.books (block_words words))
      (level_that_holds (block_words words)) (block_words words) lent after
      → AfterTake ledger.limits.policy was (block_words words) lent answer is → Outcome was words ledger answer is after
  from_take tallies (Ok span) lends follows = made _ follows.0 refl (record {
    askable = askable;
    words_are = refl;
    how = inr (inr (record {
      chunk = lends.chunk;
      p = wanted_level was.kind was.space was.books (block_words words);
      m = level_that_holds (block_words words);
      picks = lends.picked;
      chunks = ap (λ (v : ArenaView). v.books.chunks) follows.1
          ∙ ap (λ (l : List Chunk). l ++ chunk_at ledger.limits.policy span (block_words words) ∷ [])
          (retired_chunks was.books (current was.books))
          ∙ ap (λ (s : Span). was.books.chunks ++ chunk_at ledger.limits.policy s (block_words words) ∷ []) lends.answer
          ∙ ap (λ (c : Chunk). was.books.chunks ++ c ∷ [])
          (front_is (state_in was.space ledger) (wanted_level was.kind was.space was.books (block_words words))
          (level_that_holds (block_words words)) (block_words words) lends.chunk lends.picked);
      tallies = tallies;
      ledger = lends.after;
    }));
  })
  from_take tallies (Err refusal) its follows = not_made refusal follows.0
      (record { ledger = record { tallies = its.1.tallies; is = its.1.is }; cause = inr (askable, its.0) })

  from_takes : (tallies : Tallies) (before : Ledger) → before ≡ tallied ledger tallies
      → TakesNew TookAtAll ledger.limits.policy was (block_words words) before answer is after
      → Outcome was words ledger answer is after
  from_takes tallies before same its = from_take tallies its.lent
      (subst (λ (l : Ledger). TookAtAll l (account_of was) (wanted_level was.kind was.space was.books (block_words words))
      (level_that_holds (block_words words)) (block_words words) its.lent after) same its.asked) its.follows

  -- The current chunk is asked to grow.
  from_grow : (chunk : Chunk) (g : Result Span Refusal) (middle : Ledger) → current was.books ≡ Some chunk
      → GrewAtAll ledger (account_of was) chunk.start (total_asked was.books (block_words words))
      (may_enlarge was.kind was.space was.books chunk) g middle
      → AfterGrow TookAtAll ledger.limits.policy was chunk (block_words words) g middle answer is after
      → Outcome was words ledger answer is after
  from_grow chunk (Ok span) middle at_it its follows = made _ follows.1 refl (record {
    askable = askable;
    words_are = refl;
    how = inr (inl (record {
      chunk = chunk;
      greater = its.after.0;
      total = total_asked was.books (block_words words);
      may = may_enlarge was.kind was.space was.books chunk;
      at_it = at_it;
      grows = grows;
      chunks = ap (λ (v : ArenaView). v.books.chunks) follows.2
          ∙ ap (λ (c : Chunk). slice_set was.books.chunks (last_index was.books) c)
          (sym (grown_is (state_in was.space ledger) chunk its.after.0 (total_asked was.books (block_words words))
          (may_enlarge was.kind was.space was.books chunk) grows));
      ledger = follows.0 ∙ its.after.3;
    }));
  })
    where
      same : its.chunk ≡ chunk
      same = one_there was.books.chunks its.index (last_index was.books) its.chunk chunk apart its.found at_it
          its.starts

      grows : grown (state_in was.space ledger) chunk (total_asked was.books (block_words words))
          (may_enlarge was.kind was.space was.books chunk) ≡ Ok its.after.0
      grows = subst
          (λ (c : Chunk). grown (state_in was.space ledger) c (total_asked was.books (block_words words))
          (may_enlarge was.kind was.space was.books chunk) ≡ Ok its.after.0) same its.after.1
  from_grow chunk (Err refusal) middle at_it its follows = from_takes its.tallies middle its.is follows

  from_asks : (o : Option Chunk) (b : Bool) → current was.books ≡ o
      → AsksChunk GrewAtAll TookAtAll ledger.limits.policy was (block_words words) o b ledger answer is after
      → Outcome was words ledger answer is after
  from_asks (Some chunk) true at_it its = from_grow chunk its.grown its.middle at_it its.asked its.follows
  from_asks (Some chunk) false at_it its = from_takes ledger.tallies ledger refl its
  from_asks None true at_it its = from_takes ledger.tallies ledger refl its
  from_asks None false at_it its = from_takes ledger.tallies ledger refl its

  from_index : (o : Option (ℕ × ArenaState)) → placed was.books (block_words words) ≡ o
      → FindsPlace GrewAtAll TookAtAll ledger.limits.policy was (block_words words) o ledger answer is after
      → Outcome was words ledger answer is after
  from_index (Some index) at_it its = made _ its.0 refl (record {
    askable = askable;
    words_are = refl;
    how = inl
        (ap (λ (v : ArenaView). v.books.chunks) its.1 ∙ placed_chunks was.books (block_words words) index at_it, its.2);
  })
  from_index None at_it its =
      from_asks (current was.books) (asks_growth was.kind was.space was.books (current was.books) (block_words words))
      refl its

pub outcome : (was : ArenaView) (words : ℕ) (ledger : Ledger) (answer : Result Block Refusal) (is : ArenaView)
    (after : Ledger) → are_apart (map words_of was.books.chunks) ≡ true
    → Allocates GrewAtAll TookAtAll ledger.limits.policy was words ledger answer is after
    → Outcome was words ledger answer is after
outcome was words ledger answer is after apart (inl refused) =
    subst (λ (a : Result Block Refusal). Outcome was words ledger a is after) (sym refused.answer_is)
    (record { ledger = record { tallies = ledger.tallies; is = refused.source }; cause = inl refused.cause })
outcome was words ledger answer is after apart (inr its) =
    from_index was words ledger answer is after apart its.0 (placed was.books (block_words words)) refl its.1

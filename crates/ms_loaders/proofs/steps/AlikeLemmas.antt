-- An allocation over one source is one over another where each answer of the first is an answer of
-- the second; and so one by the pool's own calls is one that knows nothing of tallies.
use Rattle.std.proofs.Common.{ℕ, Bool, true, false, Option, Some, None, Result, Ok, Err, inl, inr, ap}
use Rattle.ms_base.specs.declared.policy.Policy.{Policy}
use Rattle.ms_base.specs.declared.kind.Space.{Space}
use Rattle.ms_base.specs.declared.span.Chunk.{Chunk}
use Rattle.ms_base.specs.declared.span.Span.{Span}
use Rattle.ms_base.specs.declared.span.Block.{Block}
use Rattle.ms_base.specs.declared.refusal.Refusal.{Refusal}
use Rattle.ms_base.specs.Live.{block_words}
use Rattle.ms_base.specs.State.{ArenaState}
use Rattle.ms_base.specs.Place.{placed, current}
use Rattle.ms_base.specs.Asks.{asks_growth}
use Rattle.ms_pool.specs.Account.{AccountState}
use Rattle.ms_pool.specs.Ledger.{Ledger}
use Rattle.ms_pool.specs.Calls.{Took, Grew}
use Rattle.ms_arena.specs.Arena.{ArenaView}
use Rattle.ms_arena.specs.Alloc.{TakeRelation, GrowRelation, TakesNew, AfterGrow, AsksChunk, FindsPlace, Allocates}
use Rattle.ms_loader.specs.Loader.{LoaderView, AllocatesBlock}
use Rattle.ms_loaders.proofs.steps.OutcomeLemmas.{GrewAtAll, TookAtAll, grew_at_all, took_at_all}

module _ {S T : Type 0} (f : S → T) (grew : GrowRelation S) (took : TakeRelation S) (grew_there : GrowRelation T)
    (took_there : TakeRelation T)
    (grows : (old : S) (account : AccountState) (start total : ℕ) (may_enlarge : Bool)
    (answer : Result Span Refusal) (new : S) → grew old account start total may_enlarge answer new
    → grew_there (f old) account start total may_enlarge answer (f new))
    (takes : (old : S) (account : AccountState) (wanted most words : ℕ) (answer : Result Span Refusal)
    (new : S) → took old account wanted most words answer new
    → took_there (f old) account wanted most words answer (f new))
    (policy : Policy) where
  takes_by : (was : ArenaView) (n : ℕ) (before : S) (answer : Result Block Refusal) (is : ArenaView) (after : S)
      → TakesNew took policy was n before answer is after
      → TakesNew took_there policy was n (f before) answer is (f after)
  takes_by was n before answer is after its =
      record { lent = its.lent; asked = takes _ _ _ _ _ _ _ its.asked; follows = its.follows }

  grown_by : (was : ArenaView) (chunk : Chunk) (n : ℕ) (grown : Result Span Refusal) (middle : S)
      (answer : Result Block Refusal) (is : ArenaView) (after : S)
      → AfterGrow took policy was chunk n grown middle answer is after
      → AfterGrow took_there policy was chunk n grown (f middle) answer is (f after)
  grown_by was chunk n (Ok span) middle answer is after its = (ap f its.0, its.1, its.2)
  grown_by was chunk n (Err refusal) middle answer is after its = takes_by was n middle answer is after its

  asks_by : (was : ArenaView) (n : ℕ) (o : Option Chunk) (b : Bool) (before : S) (answer : Result Block Refusal)
      (is : ArenaView) (after : S) → AsksChunk grew took policy was n o b before answer is after
      → AsksChunk grew_there took_there policy was n o b (f before) answer is (f after)
  asks_by was n (Some chunk) true before answer is after its = record {
    middle = f its.middle;
    grown = its.grown;
    asked = grows _ _ _ _ _ _ _ its.asked;
    follows = grown_by was chunk n its.grown its.middle answer is after its.follows;
  }
  asks_by was n (Some chunk) false before answer is after its = takes_by was n before answer is after its
  asks_by was n None true before answer is after its = takes_by was n before answer is after its
  asks_by was n None false before answer is after its = takes_by was n before answer is after its

  serves_by : (was : ArenaView) (n : ℕ) (o : Option (ℕ × ArenaState)) (before : S) (answer : Result Block Refusal)
      (is : ArenaView) (after : S) → FindsPlace grew took policy was n o before answer is after
      → FindsPlace grew_there took_there policy was n o (f before) answer is (f after)
  serves_by was n (Some index) before answer is after its = (its.0, its.1, ap f its.2)
  serves_by was n None before answer is after its =
      asks_by was n (current was.books) (asks_growth was.kind was.space was.books (current was.books) n) before answer
      is after its

  arena_by : (was : ArenaView) (words : ℕ) (before : S) (answer : Result Block Refusal) (is : ArenaView) (after : S)
      → Allocates grew took policy was words before answer is after
      → Allocates grew_there took_there policy was words (f before) answer is (f after)
  arena_by was words before answer is after (inl refused) = inl (record {
    refusal = refused.refusal;
    answer_is = refused.answer_is;
    cause = refused.cause;
    arena = refused.arena;
    source = ap f refused.source;
  })
  arena_by was words before answer is after (inr its) = inr (
    its.0,
    serves_by was (block_words words) (placed was.books (block_words words)) before answer is after its.1,
  )

  pub allocates_by : (space : Space) (was : LoaderView) (name words : ℕ) (before : S) (answer : Result Block Refusal)
      (is : LoaderView) (after : S)
      → AllocatesBlock grew took policy space was name words before answer is after
      → AllocatesBlock grew_there took_there policy space was name words (f before) answer is (f after)
  allocates_by space was name words before answer is after (inl refused) = inl (record {
    refusal = refused.refusal;
    answer_is = refused.answer_is;
    cause = refused.cause;
    loader = refused.loader;
    source = ap f refused.source;
  })
  allocates_by space was name words before answer is after (inr asks) = inr (record {
    unused = asks.unused;
    was = asks.was;
    is = asks.is;
    arena = asks.arena;
    allocates = arena_by asks.was words before answer asks.is after asks.allocates;
    follows = asks.follows;
  })

-- An allocation by the pool's own calls, tallies aside.
pub allocates_at_all : (policy : Policy) (space : Space) (was : LoaderView) (name words : ℕ) (old : Ledger)
    (answer : Result Block Refusal) (is : LoaderView) (new : Ledger)
    → AllocatesBlock Grew Took policy space was name words old answer is new
    → AllocatesBlock GrewAtAll TookAtAll policy space was name words old answer is new
allocates_at_all = allocates_by (λ ledger. ledger) Grew Took GrewAtAll TookAtAll grew_at_all took_at_all

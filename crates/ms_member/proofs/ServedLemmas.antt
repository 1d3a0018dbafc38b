-- A seat serves a loader that was made, that allocated or that freed; and each call on the pool
-- leaves the seat of its lock.
use Rattle.std.proofs.Common.{◌≡◌, ◌≢◌, ◌+◌, ◌<◌, ℕ, zero, suc, Bool, true, false, Option, Some, None, Result, Ok, Err}
use Rattle.std.proofs.Common.{List, [], refl, sym, ap, ◌∙◌, subst, inl, inr, arith}
use Rattle.std.specs.List.{All, AllByRecursion}
use Rattle.std.proofs.lemmas.List.Elements.{All-from_recursion}
use Rattle.ms_base.specs.declared.kind.Kind.{Kind}
use Rattle.ms_base.specs.declared.kind.Space.{Space}
use Rattle.ms_base.specs.declared.kind.Space.TheVariants.{NonClass, Class}
use Rattle.ms_base.specs.declared.policy.Policy.{Policy}
use Rattle.ms_base.specs.declared.span.Chunk.{Chunk}
use Rattle.ms_base.specs.declared.span.Span.{Span}
use Rattle.ms_base.specs.declared.span.Block.{Block}
use Rattle.ms_base.specs.declared.refusal.Refusal.{Refusal}
use Rattle.ms_base.specs.Live.{block_words}
use Rattle.ms_base.specs.Place.{placed, current}
use Rattle.ms_base.specs.Asks.{asks_growth}
use Rattle.ms_base.specs.State.{ArenaState, LoaderState, Limits, arena_of}
use Rattle.ms_base.specs.Transition.{with_allocated, zeroed}
use Rattle.ms_base.specs.Live.{LiveBlock}
use Rattle.ms_pool.specs.Account.{AccountState}
use Rattle.ms_pool.specs.Ledger.{Ledger}
use Rattle.ms_arena.specs.Arena.{ArenaView}
use Rattle.ms_arena.specs.Alloc.{TakesNew, AfterGrow, AsksChunk, FindsPlace, Allocates}
use Rattle.ms_loader.specs.Loader.{LoaderView, account_in, owner_in, new_loader, with_state, AllocatesBlock, FreesBlock}
use Rattle.ms_loaders.proofs.steps.ServedLemmas.{KeepsOther, same_account}
use Rattle.ms_loaders.proofs.steps.CallLemmas.{free_keeps}
use Rattle.ms_loaders.proofs.steps.OutcomeLemmas.{placed_chunks}
use Rattle.ms_shared.specs.declared.lock_rule.SeatView.{SeatView}
use Rattle.ms_shared.specs.SeatView.{LockState, SeatState, HeldState, ServesBy, OverLock, opened_by, spare_seats, new_seats}
use Rattle.ms_shared.specs.LockCalls.{TookHeld, GrewHeld, OpenedBothOver}
use Rattle.ms_member.specs.Member.{ServesLoader, ServesIt, PlacesIn}

-- The seat serves a loader whose accounts are the same.
pub serves_same : (knows : SeatView) (loader is : LoaderView) → is.owner ≡ loader.owner
    → is.class_owner ≡ loader.class_owner
    → ((one : Space) → (arena_of one is.state).chunks ≡ (arena_of one loader.state).chunks)
    → ServesLoader knows loader → ServesLoader knows is
serves_same knows loader is owner class_owner chunks its =
    record { served = go; counted = its.counted; apart = λ e. its.apart (sym owner ∙ e ∙ class_owner) }
  where
    go : (one : Space) → ServesBy knows (account_in one is)
    go NonClass = subst (ServesBy knows) (same_account NonClass loader is owner (chunks NonClass)) (its.served NonClass)
    go Class = subst (ServesBy knows) (same_account Class loader is class_owner (chunks Class)) (its.served Class)

-- A block was freed.
pub serves_freed : (knows : SeatView) (loader is : LoaderView) (block : ℕ) → is ≡ with_state loader is.state
    → FreesBlock loader.state block is.state → ServesLoader knows loader → ServesLoader knows is
serves_freed knows loader is block same freed =
    serves_same knows loader is (ap (λ (v : LoaderView). v.owner) same) (ap (λ (v : LoaderView). v.class_owner) same)
    (λ one. free_keeps one loader.state is.state block freed)

-- A block was placed without the pool.
allocated_chunks : (one space : Space) (loader : LoaderState) (arena : ArenaState) (name : ℕ) (block : LiveBlock)
    → arena.chunks ≡ (arena_of space loader).chunks
    → (arena_of one (with_allocated space loader arena name block)).chunks ≡ (arena_of one loader).chunks
allocated_chunks NonClass NonClass loader arena name block same = same
allocated_chunks NonClass Class loader arena name block same = refl
allocated_chunks Class NonClass loader arena name block same = refl
allocated_chunks Class Class loader arena name block same = same

pub serves_placed : (knows : SeatView) (space : Space) (block words start : ℕ) (loader is : LoaderView)
    → PlacesIn space block words start loader is → ServesLoader knows loader → ServesLoader knows is
serves_placed knows space block words start loader is its =
    serves_same knows loader is (ap (λ (v : LoaderView). v.owner) its.new_is)
    (ap (λ (v : LoaderView). v.class_owner) its.new_is)
    (λ one. ap (λ (v : LoaderView). (arena_of one v.state).chunks) its.new_is
    ∙ allocated_chunks one space loader.state its.place.1 block (zeroed start (block_words words))
    (placed_chunks (arena_of space loader.state) (block_words words) its.place its.placed_is))

-- A block was allocated, or refused, over the pool.
pub serves_after : (space : Space) (old new : SeatView) (loader is : LoaderView) → ServesLoader old loader
    → KeepsOther space loader is → ServesBy new (account_in space is)
    → ((other : AccountState) → other.owner ≢ owner_in space loader → ServesBy old other → ServesBy new other)
    → opened_by new ≡ opened_by old → ServesLoader new is
serves_after space old new loader is its keeps own others counts = record {
  served = go space keeps own others;
  counted = λ one. subst (λ (n : ℕ). 0 < n) (sym (ap (λ (f : Space → ℕ). f one) counts)) (its.counted one);
  apart = λ e. its.apart (sym keeps.owner ∙ e ∙ keeps.class_owner);
}
  where
    go : (space : Space) → KeepsOther space loader is → ServesBy new (account_in space is)
        → ((other : AccountState) → other.owner ≢ owner_in space loader → ServesBy old other → ServesBy new other)
        → (one : Space) → ServesBy new (account_in one is)
    go NonClass keeps own others NonClass = own
    go NonClass keeps own others Class =
        subst (ServesBy new) (same_account Class loader is keeps.class_owner keeps.elsewhere)
        (others (account_in Class loader) (λ e. its.apart (sym e)) (its.served Class))
    go Class keeps own others NonClass =
        subst (ServesBy new) (same_account NonClass loader is keeps.owner keeps.elsewhere)
        (others (account_in NonClass loader) its.apart (its.served NonClass))
    go Class keeps own others Class = own

-- Both accounts of a new loader were opened.
pub serves_new : (kind : Kind) (old new : SeatState) (accounts : AccountState × AccountState)
    → OpenedBothOver old (Ok accounts) new → ServesBy new.knows accounts.0 → ServesBy new.knows accounts.1
    → ((space : Space) → opened_by new.knows space ≡ opened_by old.knows space + 1)
    → ServesLoader new.knows (new_loader accounts.0 accounts.1 kind)
serves_new kind old new accounts opened first second counts = record {
  served = go;
  counted = λ space. omega (arith, counts space);
  apart = λ e. omega (arith, e, ap (λ (a : AccountState × AccountState). a.1.owner) opened.new_are);
}
  where
    go : (one : Space) → ServesBy new.knows (account_in one (new_loader accounts.0 accounts.1 kind))
    go NonClass = subst (ServesBy new.knows) (ap (λ (a : AccountState × AccountState). a.0) opened.new_are) first
    go Class = subst (ServesBy new.knows)
        (ap (λ (a : AccountState × AccountState). a.1) opened.new_are
        ∙ ap (λ (n : ℕ). record { owner = n; space = Class; chunks = [] })
        (sym (ap (λ (a : AccountState × AccountState). a.1.owner) opened.new_are))) second

-- The pool was purged.
pub serves_purged : (old new : SeatView) → ((account : AccountState) → ServesBy old account → ServesBy new account)
    → opened_by new ≡ opened_by old → (loader : Option LoaderView) → ServesIt old loader → ServesIt new loader
serves_purged old new serves counts None its = tt
serves_purged old new serves counts (Some loader) its = record {
  served = λ space. serves (account_in space loader) (its.served space);
  counted = λ space. subst (λ (n : ℕ). 0 < n) (sym (ap (λ (f : Space → ℕ). f space) counts)) (its.counted space);
  apart = its.apart;
}

-- A call on the pool leaves the seat of its lock.
pub over_id : {event : Ledger → Ledger → Type 0} (old new : SeatState) → OverLock event old new → new.id ≡ old.id
over_id old new its = ap (λ (s : SeatState). s.id) its.left

module _ (policy : Policy) (was : ArenaView) (n : ℕ) (answer : Result Block Refusal) (is : ArenaView)
    (after : HeldState) where
  takes_id : (before : HeldState) → TakesNew TookHeld policy was n before answer is after
      → after.seat.id ≡ before.seat.id
  takes_id before its = over_id before.seat after.seat its.asked.0.event

  grown_id : (chunk : Chunk) (grown : Result Span Refusal) (middle : HeldState)
      → AfterGrow TookHeld policy was chunk n grown middle answer is after → after.seat.id ≡ middle.seat.id
  grown_id chunk (Ok span) middle its = ap (λ (h : HeldState). h.seat.id) its.0
  grown_id chunk (Err refusal) middle its = takes_id middle its

  asks_id : (o : Option Chunk) (b : Bool) (before : HeldState)
      → AsksChunk GrewHeld TookHeld policy was n o b before answer is after → after.seat.id ≡ before.seat.id
  asks_id (Some chunk) true before its =
      grown_id chunk its.grown its.middle its.follows ∙ over_id before.seat its.middle.seat its.asked.0.event
  asks_id (Some chunk) false before its = takes_id before its
  asks_id None true before its = takes_id before its
  asks_id None false before its = takes_id before its

  finds_id : (o : Option (ℕ × ArenaState)) (before : HeldState)
      → FindsPlace GrewHeld TookHeld policy was n o before answer is after → after.seat.id ≡ before.seat.id
  finds_id (Some place) before its = ap (λ (h : HeldState). h.seat.id) its.2
  finds_id None before its =
      asks_id (current was.books) (asks_growth was.kind was.space was.books (current was.books) n) before its

pub arena_id : (policy : Policy) (was : ArenaView) (words : ℕ) (before : HeldState) (answer : Result Block Refusal)
    (is : ArenaView) (after : HeldState)
    → Allocates GrewHeld TookHeld policy was words before answer is after → after.seat.id ≡ before.seat.id
arena_id policy was words before answer is after (inl refused) = ap (λ (h : HeldState). h.seat.id) refused.source
arena_id policy was words before answer is after (inr its) =
    finds_id policy was (block_words words) answer is after (placed was.books (block_words words)) before its.1

pub block_id : (space : Space) (policy : Policy) (was is : LoaderView) (name words : ℕ) (old new : HeldState)
    (answer : Result Block Refusal) → AllocatesBlock GrewHeld TookHeld policy space was name words old answer is new
    → new.seat.id ≡ old.seat.id
block_id space policy was is name words old new answer (inl refused) =
    ap (λ (h : HeldState). h.seat.id) refused.source
block_id space policy was is name words old new answer (inr asks) =
    arena_id policy asks.was words old answer asks.is new asks.allocates

-- The seats of a new lock are its own.
spare_own : (lock : LockState) (limits : Limits) (first n : ℕ)
    → AllByRecursion (λ (s : SeatState). s.id ≡ lock.id) (spare_seats lock.id limits first n)
spare_own lock limits first zero = tt
spare_own lock limits first (suc n) = (refl, spare_own lock limits (suc first) n)

pub all_own : (lock : LockState) (made : ℕ) (pool : Ledger) (seats : List SeatState)
    → seats ≡ new_seats lock.id made pool → All (λ (s : SeatState). s.id ≡ lock.id) seats
all_own lock made pool seats is =
    subst (All (λ (s : SeatState). s.id ≡ lock.id)) (sym is)
    (All-from_recursion (λ (s : SeatState). s.id ≡ lock.id) (new_seats lock.id made pool)
    (refl, spare_own lock pool.limits 1 _))

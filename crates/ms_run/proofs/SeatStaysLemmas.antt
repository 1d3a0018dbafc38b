-- What an allocation over the lock leaves a seat: it serves the loaders still, and no other owner
-- gets a first chunk.
use Rattle.std.proofs.Common.{◌≡◌, ◌≢◌, ◌-◌, ℕ, ◌⊎◌, Bool, true, false, cond, Option, Some, None, Result, Ok, Err, List}
use Rattle.std.proofs.Common.{[], ◌∷◌, ◌++◌, map, refl, sym, ap, ◌∙◌, subst, inl, inr, arith, append-nil}
use Rattle.std.specs.Prelude.{◌==◌}
use Rattle.std.specs.List.{AllByRecursion, filter}
use Rattle.std.specs.Ordering.{nat_cmp}
use Rattle.std.specs.BTreeMap.{is_at}
use Rattle.std.proofs.lemmas.List.Elements.{recursion_from_All}
use Rattle.std.proofs.lemmas.Bool.{both_ways}
use Rattle.std.proofs.lemmas.Map.Views.{All-values-set_value}
use Rattle.ms_base.specs.declared.kind.Space.{Space}
use Rattle.ms_base.specs.declared.kind.Space.TheVariants.{NonClass, Class}
use Rattle.ms_base.specs.declared.policy.Policy.{Policy}
use Rattle.ms_base.specs.declared.span.Chunk.{Chunk}
use Rattle.ms_base.specs.declared.span.Span.{Span}
use Rattle.ms_base.specs.declared.span.Block.{Block}
use Rattle.ms_base.specs.declared.refusal.Refusal.{Refusal}
use Rattle.ms_base.specs.Spaces.{by_space}
use Rattle.ms_base.specs.Committed.{is_among}
use Rattle.ms_base.specs.Names.{named, with_changed}
use Rattle.ms_base.specs.Live.{block_words}
use Rattle.ms_base.specs.Place.{placed, current}
use Rattle.ms_base.specs.Asks.{asks_growth, wanted_level, total_asked, may_enlarge}
use Rattle.ms_base.specs.Level.{level_that_holds}
use Rattle.ms_base.specs.State.{ArenaState}
use Rattle.ms_base.proofs.entries.EntryLemmas.{Split, split_at, rises_with_changed}
use Rattle.ms_pool.specs.Account.{AccountState}
use Rattle.ms_pool.specs.Ledger.{Loan, Ledger, chunks_of, is_owned_by}
use Rattle.ms_pool.specs.Calls.{GrewFrom}
use Rattle.ms_pool.specs.Source.{LeavesRest}
use Rattle.ms_pool.proofs.ledger.KeepsLemmas.{Keeps, keeps_where_tallied}
use Rattle.ms_pool.proofs.ledger.TookLemmas.{took_keeps}
use Rattle.ms_pool.proofs.ledger.GrewLemmas.{grow_refused_raises}
use Rattle.ms_arena.specs.Arena.{ArenaView, account_of}
use Rattle.ms_arena.specs.Alloc.{TakesNew, GrowsCurrent, AfterGrow, AsksChunk, FindsPlace, Allocates}
use Rattle.ms_loader.specs.Loader.{LoaderView, account_in, owner_in, AllocatesBlock, IsSoundView}
use Rattle.ms_loaders.specs.System.{accounts_of, owners_of, AreDistinct}
use Rattle.ms_shared.specs.declared.lock_rule.SeatView.{SeatView}
use Rattle.ms_shared.specs.Entries.{Entry, Has, refreshed, fresh}
use Rattle.ms_shared.specs.SeatView.{SeatState, ServesBy, OverLock, opened_by}
use Rattle.ms_shared.specs.LockCalls.{TookOver, GrewOver}
use Rattle.ms_shared.proofs.RecordLemmas.{has_record}
use Rattle.ms_run.specs.Manned.{IsManned}
use Rattle.ms_loaders.proofs.steps.ServedLemmas.{KeepsOther, all_parts, all_still, block_keeps, length_changed}
use Rattle.ms_loaders.proofs.steps.ServedLemmas.{accounts_split, own_is_among, owners_stay}
use Rattle.ms_loaders.proofs.sums.OwnedLoanLemmas.{chunk_of}

-- All that the seat knows of an owner is that it holds no chunk.
abbrev pub HoldsNothing : SeatView → ℕ → Type 0
HoldsNothing view owner = (chunks : List Chunk) → Has view.served owner chunks → chunks ≡ []

-- No owner but one gets a first chunk.
pub record Stays (owner : ℕ) (old new : SeatState) : Type 0 where
  pub none : (other : ℕ) → other ≢ owner → HoldsNothing old.knows other → HoldsNothing new.knows other

stays_same : (owner : ℕ) (old new : SeatState) → new ≡ old → Stays owner old new
stays_same owner old new same = subst (Stays owner old) (sym same) (record { none = λ other differs has. has })

stays_on : (owner : ℕ) (old mid new : SeatState) → Stays owner old mid → Stays owner mid new → Stays owner old new
stays_on owner old mid new first second =
    record { none = λ other differs has. second.none other differs (first.none other differs has) }

-- An entry that was made anew, as it was.
record WasIn (pool : Ledger) (entries : List Entry) (owner : ℕ) (chunks : List Chunk) : Type 0 where
  was : List Chunk
  has : Has entries owner was
  is : chunks ≡ chunks_of pool owner

was_in : (pool : Ledger) (entries : List Entry) (owner : ℕ) (chunks : List Chunk)
    → Has (refreshed pool entries) owner chunks → WasIn pool entries owner chunks
was_in pool [] owner chunks here = absurd here
was_in pool (x ∷ xs) owner chunks (inl is) = record {
  was = x.1;
  has = inl (ap (λ (entry : Entry). (entry.0, x.1)) is);
  is = sym (ap (λ (entry : Entry). entry.1) is) ∙ ap (λ (entry : Entry). chunks_of pool entry.0) is;
}
was_in pool (x ∷ xs) owner chunks (inr there) =
    let rest = was_in pool xs owner chunks there in record { was = rest.was; has = inr rest.has; is = rest.is }

-- Where no number is given out, no owner is new.
no_fresh : (pool : Ledger) (given : ℕ) (xs : List Entry) (owner : ℕ) (chunks : List Chunk) → pool.given ≡ given
    → Has (xs ++ fresh pool given (pool.given - given)) owner chunks → Has xs owner chunks
no_fresh pool given xs owner chunks same here =
    subst (λ (l : List Entry). Has l owner chunks) (ap (λ (n : ℕ). xs ++ fresh pool given n) none ∙ append-nil xs) here
  where
    none : pool.given - given ≡ 0
    none = omega (arith, same)

-- A call that gives out no number, and no first chunk to any owner but one.
record IsQuiet (owner : ℕ) (before after : Ledger) : Type 0 where
  given : after.given ≡ before.given
  none : (other : ℕ) → other ≢ owner → chunks_of before other ≡ [] → chunks_of after other ≡ []

over_lock_stays : {event : Ledger → Ledger → Type 0} (owner : ℕ) (old new : SeatState) (its : OverLock event old new)
    → IsQuiet owner its.before its.after
    → Stays owner old new
over_lock_stays owner old new its quiet = subst (Stays owner old) (sym its.left) (record { none = none })
  where
    none : (other : ℕ) → other ≢ owner → HoldsNothing old.knows other
        → (chunks : List Chunk)
        → Has (refreshed its.after old.knows.served ++ fresh its.after its.before.given
        (its.after.given - its.before.given)) other chunks → chunks ≡ []
    none other differs has chunks here =
        let was =
        was_in its.after old.knows.served other chunks
        (no_fresh its.after its.before.given (refreshed its.after old.knows.served) other chunks quiet.given here)
        in
        let is = has_record its.before old.knows.served other was.was its.known.served was.has in
        was.is ∙ quiet.none other differs (is.chunks_are ∙ has was.was was.has)

keeps_quiet : (owner : ℕ) (before after : Ledger) → Keeps owner before after → IsQuiet owner before after
keeps_quiet owner before after keeps =
    record { given = keeps.given; none = λ other differs none. keeps.others other differs ∙ none }

abbrev grown_loan : Chunk → Loan → Loan
grown_loan greater loan = cond (loan.chunk.start == greater.start) (record loan { chunk = greater }) loan

grown_none : (greater : Chunk) (owner : ℕ) (loans : List Loan) → map chunk_of (filter (is_owned_by owner) loans) ≡ []
    → map chunk_of (filter (is_owned_by owner) (map (grown_loan greater) loans)) ≡ []
grown_none greater owner [] none = refl
grown_none greater owner (loan ∷ loans) none =
    elim (loan.owner == owner) as (λ b. (loan.owner == owner) ≡ b
    → map chunk_of (cond b (loan ∷ filter (is_owned_by owner) loans) (filter (is_owned_by owner) loans)) ≡ []
    → map chunk_of (filter (is_owned_by owner) (grown_loan greater loan ∷ map (grown_loan greater) loans)) ≡ []) [
      | true ↦ λ mine none. absurd (cc)
      | false ↦ λ not_mine none. elim (loan.chunk.start == greater.start) as (λ b.
          map chunk_of
          (filter (is_owned_by owner)
          (cond b (record loan { chunk = greater }) loan ∷ map (grown_loan greater) loans)) ≡ []) [
            | true ↦ rw not_mine (grown_none greater owner loans none)
            | false ↦ rw not_mine (grown_none greater owner loans none)
          ]
    ] refl none

grew_quiet : (owner : ℕ) (before : Ledger) (account : AccountState) (chunk : Chunk) (total : ℕ) (may_enlarge : Bool)
    (answer : Result Span Refusal) (after : Ledger)
    → GrewFrom before account chunk total may_enlarge answer after → IsQuiet owner before after
grew_quiet owner before account chunk total may_enlarge (Ok span) after (greater, answered, at, is) =
    subst (IsQuiet owner before) (sym is)
    (record { given = refl; none = λ other differs none. grown_none greater other before.loans none })
grew_quiet owner before account chunk total may_enlarge (Err refusal) after refused =
    keeps_quiet owner before after
    (keeps_where_tallied owner before after
    (grow_refused_raises before account chunk total may_enlarge refusal after refused))

took_stays : (old new : SeatState) (account : AccountState) (wanted most words : ℕ) (answer : Result Span Refusal)
    → TookOver old account wanted most words answer new
    → Stays account.owner old new
took_stays old new account wanted most words answer its =
    over_lock_stays account.owner old new its.event
    (keeps_quiet account.owner its.event.before its.event.after
    (took_keeps its.event.before account wanted most words answer its.event.after its.event.called))

grew_stays : (old new : SeatState) (account : AccountState) (start total : ℕ) (may : Bool)
    (answer : Result Span Refusal) → GrewOver old account start total may answer new
    → Stays account.owner old new
grew_stays old new account start total may answer its =
    over_lock_stays account.owner old new its.event
    (grew_quiet account.owner its.event.before account its.event.called.chunk total may answer its.event.after
    its.event.called.after)

-- So an arena's allocation, and a loader's.
module _ (policy : Policy) (was : ArenaView) (n : ℕ) (answer : Result Block Refusal) (is : ArenaView)
    (after : SeatState) where
  takes_stays : (before : SeatState) → TakesNew TookOver policy was n before answer is after → Stays was.owner before after
  takes_stays before its =
      took_stays before after (account_of was) (wanted_level was.kind was.space was.books n)
      (level_that_holds n) n its.lent its.asked

  after_grow_stays : (chunk : Chunk) (grown : Result Span Refusal) (middle : SeatState)
      → AfterGrow TookOver policy was chunk n grown middle answer is after → Stays was.owner middle after
  after_grow_stays chunk (Ok span) middle its = stays_same was.owner middle after its.0
  after_grow_stays chunk (Err refusal) middle its = takes_stays middle its

  grows_stays : (chunk : Chunk) (before : SeatState) → GrowsCurrent GrewOver TookOver policy was chunk n before answer is after
      → Stays was.owner before after
  grows_stays chunk before its = stays_on was.owner before its.middle after
      (grew_stays before its.middle (account_of was) chunk.start (total_asked was.books n)
      (may_enlarge was.kind was.space was.books chunk) its.grown its.asked)
      (after_grow_stays chunk its.grown its.middle its.follows)

  asks_stays : (o : Option Chunk) (b : Bool) (before : SeatState)
      → AsksChunk GrewOver TookOver policy was n o b before answer is after → Stays was.owner before after
  asks_stays (Some chunk) true before its = grows_stays chunk before its
  asks_stays (Some chunk) false before its = takes_stays before its
  asks_stays None true before its = takes_stays before its
  asks_stays None false before its = takes_stays before its

  serves_stays : (o : Option (ℕ × ArenaState)) (before : SeatState)
      → FindsPlace GrewOver TookOver policy was n o before answer is after → Stays was.owner before after
  serves_stays (Some place) before its = stays_same was.owner before after its.2
  serves_stays None before its =
      asks_stays (current was.books) (asks_growth was.kind was.space was.books (current was.books) n) before its

arena_stays : (policy : Policy) (was : ArenaView) (words : ℕ) (before : SeatState) (answer : Result Block Refusal)
    (is : ArenaView) (after : SeatState)
    → Allocates GrewOver TookOver policy was words before answer is after → Stays was.owner before after
arena_stays policy was words before answer is after (inl refused) = stays_same was.owner before after refused.source
arena_stays policy was words before answer is after (inr its) =
    serves_stays policy was (block_words words) answer is after (placed was.books (block_words words)) before its.1

pub block_stays : (space : Space) (policy : Policy) (was is : LoaderView) (name words : ℕ) (old new : SeatState)
    (answer : Result Block Refusal)
    → AllocatesBlock GrewOver TookOver policy space was name words old answer is new
    → Stays (by_space space was.owner was.class_owner) old new
block_stays space policy was is name words old new answer (inl refused) =
    stays_same (by_space space was.owner was.class_owner) old new refused.source
block_stays space policy was is name words old new answer (inr asks) =
    subst (λ (owner : ℕ). Stays owner old new) asks.arena.owner
    (arena_stays policy asks.was words old answer asks.is new asks.allocates)

-- The seat serves each loader's accounts.
pub own_is_served : (space : Space) (seat : SeatView) (loaders : List (ℕ × LoaderView)) (name : ℕ) (v : LoaderView)
    → named loaders name ≡ Some v → IsManned seat loaders
    → ServesBy seat (account_in space v)
own_is_served space seat loaders name v found its = go space
  where
    split : Split loaders name v
    split = split_at loaders name v found

    parts : AllByRecursion (ServesBy seat) (accounts_of split.before)
        × ServesBy seat (account_in NonClass v) × ServesBy seat (account_in Class v)
        × AllByRecursion (ServesBy seat) (accounts_of split.after)
    parts = all_parts (ServesBy seat) (accounts_of split.before) (accounts_of split.after) (account_in NonClass v)
        (account_in Class v)
        (rw (ap accounts_of split.is
        ∙ accounts_split split.before split.after name v) at (recursion_from_All (ServesBy seat)
        (accounts_of loaders) its.served))

    go : (one : Space) → ServesBy seat (account_in one v)
    go NonClass = parts.1
    go Class = parts.2

-- An owner without a chunk, or a loader's: so it stays.
abbrev IsOurs : List ℕ → ℕ → List Chunk → Type 0
IsOurs owners owner chunks = (chunks ≡ []) ⊎ (is_among owners owner ≡ true)

no_other_still : (own : ℕ) (owners : List ℕ) (old new : SeatState) → is_among owners own ≡ true → Stays own old new
    → ((owner : ℕ) (chunks : List Chunk) → Has old.knows.served owner chunks → IsOurs owners owner chunks)
    → (owner : ℕ) (chunks : List Chunk) → Has new.knows.served owner chunks → IsOurs owners owner chunks
no_other_still own owners old new among stays each owner chunks here =
    elim (is_among owners owner) as (λ b. is_among owners owner ≡ b → (chunks ≡ []) ⊎ (b ≡ true)) [
      | true ↦ λ ours. inr refl
      | false ↦
          λ not_ours. inl
          (stays.none owner (differs not_ours) (λ was has. nothing not_ours (each owner was has)) chunks here)
    ] refl
  where
    differs : is_among owners owner ≡ false → owner ≢ own
    differs not_ours same = both_ways (is_among owners owner) not_ours (ap (is_among owners) same ∙ among)

    nothing : {was : List Chunk} → is_among owners owner ≡ false → IsOurs owners owner was → was ≡ []
    nothing not_ours (inl none) = none
    nothing not_ours (inr ours) = absurd (both_ways (is_among owners owner) not_ours ours)

-- So the loaders are manned still.
pub manned_after : (space : Space) (old new : SeatState) (policy : Policy) (loaders : List (ℕ × LoaderView))
    (name block words : ℕ) (was is : LoaderView) (answer : Result Block Refusal)
    → named loaders name ≡ Some was → AllocatesBlock GrewOver TookOver policy space was block words old answer is new
    → ServesBy new.knows (account_in space is)
    → LeavesRest (λ (seat : SeatState). ServesBy seat.knows) (λ seat. opened_by seat.knows) (λ seat. seat.knows.limits)
    (owner_in space was) old new
    → IsSoundView is → IsManned old.knows loaders → IsManned new.knows (with_changed loaders name is)
manned_after space old new policy loaders name block words was is answer found allocates own rest sound its = record {
  served = all_still (ServesBy old.knows) (ServesBy new.knows) space loaders name was is found keeps its.distinct
      rest.others own its.served;
  distinct = subst AreDistinct (sym owners_same) its.distinct;
  no_other =
      subst (λ (owners : List ℕ). (owner : ℕ) (chunks : List Chunk) → Has new.knows.served owner chunks
      → IsOurs owners owner chunks) (sym owners_same)
      (no_other_still (by_space space was.owner was.class_owner) (owners_of loaders) old new
      (own_is_among space loaders name was found)
      (block_stays space policy was is block words old new answer allocates) its.no_other);
  opened = λ one. ap (λ (f : Space → ℕ). f one) rest.counted ∙ its.opened one ∙ sym (length_changed loaders name is);
  sound = All-values-set_value (is_at (nat_cmp name)) IsSoundView loaders is its.sound sound;
  names = rises_with_changed loaders name is its.names;
}
  where
    keeps : KeepsOther space was is
    keeps = block_keeps GrewOver TookOver policy space was is block words old new answer allocates

    owners_same : owners_of (with_changed loaders name is) ≡ owners_of loaders
    owners_same = owners_stay space loaders name was is found keeps

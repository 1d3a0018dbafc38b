-- What each call on the pool answers, and what it leaves. Whatever is not named stays: the loans of
-- other owners, the numbers given out, the open accounts, the tallies and the limits.
use Rattle.std.specs.Prelude.{◌≡◌, ℕ, ◌+◌, ◌≤◌, ◌^◌, Bool, [], length, slice_get, Some, Result, Ok, Err}
use Rattle.ms_base.specs.declared.kind.Space.{Space}
use Rattle.ms_base.specs.declared.kind.Space.TheVariants.{NonClass, Class}
use Rattle.ms_base.specs.declared.span.Chunk.{Chunk}
use Rattle.ms_base.specs.declared.span.Span.{Span}
use Rattle.ms_base.specs.declared.refusal.Refusal.{Refusal}
use Rattle.ms_base.specs.declared.refusal.Refusal.TheVariants.{CommitLimit, ReserveLimit, OutOfMemory, IdsUsedUp}
use Rattle.ms_base.specs.declared.refusal.Refusal.TheVariants.{NoRoom}
use Rattle.ms_base.specs.PoolSteps.{taken, grown}
use Rattle.ms_pool.specs.Account.{AccountState, AreChunks}
use Rattle.ms_pool.specs.Lending.{span_of}
use Rattle.ms_pool.specs.Tallies.{Tallies, one_more}
use Rattle.ms_pool.specs.Ledger.{IsSoundLedger, Ledger, state_in, with_lent, with_grown, with_opened, with_closed, with_both_closed}
use Rattle.ms_pool.specs.Ledger.{purged, opened_in}
use Rattle.ms_base.specs.Totals.{PoolSums, pool_sums}
use Rattle.ms_pool.specs.declared.totals.PoolTotals.{PoolTotals}

-- A tally is raised, and nothing else changes.
abbrev pub tallied : Ledger → Tallies → Ledger
tallied ledger tallies = record ledger { tallies = tallies }

-- The account of an owner that has nothing yet.
abbrev pub new_account : ℕ → Space → AccountState
new_account owner space = record { owner = owner; space = space; chunks = [] }

-- A pool is sound before a call and after it, and so are the chunks of the account that it is for.
pub record AreSoundWith (old new : Ledger) (account left : AccountState) : Type 0 where
  pub before : IsSoundLedger old
  pub after : IsSoundLedger new
  pub held : AreChunks account.space account.chunks
  pub holds : AreChunks left.space left.chunks

-- An account is opened: its number is the next one. All numbers, 1 to 2^32 - 1, were given out
-- where it is refused.
abbrev pub Opened : Ledger → Space → Result AccountState Refusal → Ledger → Type 0
Opened old space (Ok account) new = (account ≡ new_account (old.given + 1) space) × (new ≡ with_opened old space)
Opened old space (Err refusal) new =
    (refusal ≡ IdsUsedUp) × (2 ^ 32 ≤ old.given + 1)
    × (new ≡ tallied old (record old.tallies { open_ids = one_more old.tallies.open_ids }))

-- An account in each space is opened, by one event: their numbers are the next two.
abbrev pub OpenedBoth : Ledger → Result (AccountState × AccountState) Refusal → Ledger → Type 0
OpenedBoth old (Ok accounts) new =
    (accounts ≡ (new_account (old.given + 1) NonClass, new_account (old.given + 2) Class))
    × (new ≡ with_opened (with_opened old NonClass) Class)
OpenedBoth old (Err refusal) new =
    (refusal ≡ IdsUsedUp) × (2 ^ 32 ≤ old.given + 2)
    × (new ≡ tallied old (record old.tallies { open_ids = one_more old.tallies.open_ids }))

-- A chunk is lent: the one that the searches pick.
pub record Lends (old : Ledger) (account : AccountState) (wanted most words : ℕ) (span : Span)
    (new : Ledger) : Type 0 where
  pub chunk : Chunk
  pub picked : taken (state_in account.space old) wanted most words ≡ Ok chunk
  pub answer : span ≡ span_of chunk
  pub after : new ≡ with_lent old account.space account.owner chunk

-- Why no chunk is lent, in the order of the checks: the searches meet a limit, or they pick a chunk
-- and memory is wanting.
abbrev pub TakeRefused : Ledger → AccountState → ℕ → ℕ → ℕ → Refusal → Ledger → Type 0
TakeRefused old account wanted most words (CommitLimit committed limit need) new =
    (taken (state_in account.space old) wanted most words ≡ Err (CommitLimit committed limit need))
    × (new ≡ tallied old (record old.tallies { take_commit = one_more old.tallies.take_commit }))
TakeRefused old account wanted most words (ReserveLimit nodes limit) new =
    (taken (state_in account.space old) wanted most words ≡ Err (ReserveLimit nodes limit))
    × (new ≡ tallied old (record old.tallies { take_reserve = one_more old.tallies.take_reserve }))
TakeRefused old account wanted most words OutOfMemory new =
    ((chunk : Chunk) × (taken (state_in account.space old) wanted most words ≡ Ok chunk)) × (new ≡ old)
TakeRefused old account wanted most words _ new = ⊥

abbrev pub Took : Ledger → AccountState → ℕ → ℕ → ℕ → Result Span Refusal → Ledger → Type 0
Took old account wanted most words (Ok span) new = Lends old account wanted most words span new
Took old account wanted most words (Err refusal) new = TakeRefused old account wanted most words refusal new

-- A chunk of the account is asked to reach so many words in all: it grows, or there is no room in
-- its span, or the granules that it lacks pass the limit.
abbrev pub GrewFrom : Ledger → AccountState → Chunk → ℕ → Bool → Result Span Refusal → Ledger → Type 0
GrewFrom old account chunk total may_enlarge (Ok span) new =
    (greater : Chunk) × (grown (state_in account.space old) chunk total may_enlarge ≡ Ok greater)
    × (span ≡ span_of greater) × (new ≡ with_grown old greater)
GrewFrom old account chunk total may_enlarge (Err (CommitLimit committed limit need)) new =
    (grown (state_in account.space old) chunk total may_enlarge ≡ Err (CommitLimit committed limit need))
    × (new ≡ tallied old (record old.tallies { grow_commit = one_more old.tallies.grow_commit }))
GrewFrom old account chunk total may_enlarge (Err (NoRoom level)) new =
    (grown (state_in account.space old) chunk total may_enlarge ≡ Err (NoRoom level))
    × (new ≡ tallied old (record old.tallies { grow_room = one_more old.tallies.grow_room }))
GrewFrom old account chunk total may_enlarge (Err _) new = ⊥

-- So it is for the chunk that starts there.
pub record Grew (old : Ledger) (account : AccountState) (start total : ℕ) (may_enlarge : Bool)
    (answer : Result Span Refusal) (new : Ledger) : Type 0 where
  pub index : ℕ
  pub chunk : Chunk
  pub found : slice_get account.chunks index ≡ Some chunk
  pub starts : chunk.start ≡ start
  pub after : GrewFrom old account chunk total may_enlarge answer new

-- An account is closed; both accounts of a loader are closed, by one event.
abbrev pub Closed : Ledger → AccountState → Ledger → Type 0
Closed old account new = new ≡ with_closed old account

abbrev pub ClosedBoth : Ledger → AccountState → AccountState → Ledger → Type 0
ClosedBoth old account class_account new = new ≡ with_both_closed old account class_account

-- The nodes without a chunk go, and the answer is how many they were.
abbrev pub Purged : Ledger → ℕ → Ledger → Type 0
Purged old gone new = (gone + length new.slots ≡ length old.slots) × (new ≡ purged old)

-- The totals of an account's space, as numbers.
abbrev pub sums_in : PoolTotals → PoolSums
sums_in totals = record {
  nodes = totals.nodes;
  granules = totals.granules;
  lent = totals.lent;
  free = totals.free;
  capacity = totals.capacity;
  fronts = totals.fronts;
  accounts = totals.accounts;
}

-- The answer is the sums over a space, and nothing changes.
abbrev pub Totalled : Ledger → AccountState → PoolTotals → Ledger → Type 0
Totalled old account totals new =
    (sums_in totals ≡ pool_sums (state_in account.space old) (opened_in old account.space)) × (new ≡ old)

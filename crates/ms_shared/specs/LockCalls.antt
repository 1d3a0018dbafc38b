-- What each call over the lock answers, and what it leaves its seat: the pool's own relation for
-- it, on the pool that the seat found, and a tally of the seat raised where a limit refused it
-- (this project's choice).
use Rattle.std.specs.Prelude.{◌≡◌, ◌==◌, ◌+◌, ◌<◌, ◌≤◌, ℕ, Bool, true, false, slice_get, slice_index, Some, Result, Ok}
use Rattle.std.specs.Prelude.{Err, IfOk, IfErr}
use Rattle.std.specs.List.{count_by}
use Rattle.ms_base.specs.declared.kind.Space.{Space}
use Rattle.ms_base.specs.declared.kind.Space.TheVariants.{NonClass, Class}
use Rattle.ms_base.specs.declared.policy.Policy.{Policy}
use Rattle.ms_base.specs.declared.span.Chunk.{Chunk}
use Rattle.ms_base.specs.declared.span.Span.{Span}
use Rattle.ms_base.specs.declared.refusal.Refusal.{Refusal}
use Rattle.ms_base.specs.declared.refusal.Refusal.TheVariants.{CommitLimit, ReserveLimit, OutOfMemory, NoRoom}
use Rattle.ms_base.specs.Level.{size_of, level_count}
use Rattle.ms_base.specs.Policy.{granule_of, keeps}
use Rattle.ms_base.specs.Front.{granules_for}
use Rattle.ms_base.specs.Spaces.{by_space}
use Rattle.ms_base.specs.State.{Limits}
use Rattle.ms_base.specs.Totals.{capacity_of, fronts_of}
use Rattle.ms_pool.specs.Account.{AccountState}
use Rattle.ms_pool.specs.Tallies.{Tallies}
use Rattle.ms_pool.specs.Calls.{Took, Grew, Closed, Totalled, OpenedBoth, ClosedBoth, Purged, new_account}
use Rattle.ms_pool.specs.declared.totals.PoolTotals.{PoolTotals}
use Rattle.ms_shared.specs.SeatView.{SeatState, ServesBy, opened_by, commit_of_take, reserve_of_take, commit_of_grow}
use Rattle.ms_shared.specs.SeatView.{room_of_grow, ids_of_open, raise, OverLock, HeldState, IsEvent}

-- The tally that a refusal of `take` raises, and of `grow`; other answers raise none, and other
-- refusals don't come.
abbrev pub TakeTallies : Result Span Refusal → Tallies → Tallies → Type 0
TakeTallies (Ok span) old new = new ≡ old
TakeTallies (Err (CommitLimit committed limit need)) old new = new ≡ raise commit_of_take old
TakeTallies (Err (ReserveLimit nodes limit)) old new = new ≡ raise reserve_of_take old
TakeTallies (Err OutOfMemory) old new = new ≡ old
TakeTallies (Err _) old new = ⊥

abbrev pub GrowTallies : Result Span Refusal → Tallies → Tallies → Type 0
GrowTallies (Ok span) old new = new ≡ old
GrowTallies (Err (CommitLimit committed limit need)) old new = new ≡ raise commit_of_grow old
GrowTallies (Err (NoRoom level)) old new = new ≡ raise room_of_grow old
GrowTallies (Err _) old new = ⊥

-- How many granules a request of so many words needs: those for its words; under policy none, where
-- whole chunks are committed, at least one.
abbrev pub NeedsBy : Bool → ℕ → ℕ → Type 0
NeedsBy true enough need = 1 ≤ need
NeedsBy false enough need = need ≡ enough

abbrev pub Needs : Policy → ℕ → ℕ → Type 0
Needs policy words need = NeedsBy (keeps policy) (granules_for (granule_of policy) words) need

-- What a limit that `take` met tells: the limit of granules, which those committed and needed pass,
-- or that as many nodes are reserved as may be.
abbrev pub TakeTells : Limits → Space → ℕ → Result Span Refusal → Type 0
TakeTells limits space words (Err (CommitLimit committed limit need)) =
    (limit ≡ limits.granules) × (limit < committed + need) × Needs limits.policy words need
TakeTells limits space words (Err (ReserveLimit nodes limit)) =
    (nodes ≡ limit) × (limit ≡ by_space space limits.nodes limits.class_nodes)
TakeTells limits space words _ = Unit {0}

-- There is no room in place: the chunk that starts there is of this level, and smaller than what
-- was asked for in all.
pub record HasNoRoom (account : AccountState) (start total level : ℕ) : Type 0 where
  pub index : ℕ
  pub chunk : Chunk
  pub found : slice_get account.chunks index ≡ Some chunk
  pub starts : chunk.start ≡ start
  pub level_is : level ≡ chunk.level
  pub past : size_of chunk.level < total

-- What a refusal of `grow` tells: the limit of granules, which those committed and needed pass, or
-- that there is no room in place.
abbrev pub GrowTells : Limits → AccountState → ℕ → ℕ → Result Span Refusal → Type 0
GrowTells limits account start total (Err (CommitLimit committed limit need)) =
    (limit ≡ limits.granules) × (limit < committed + need)
GrowTells limits account start total (Err (NoRoom level)) = HasNoRoom account start total level
GrowTells limits account start total _ = Unit {0}

-- A chunk is lent or refused.
pub record TookOver (old : SeatState) (account : AccountState) (wanted most words : ℕ) (result : Result Span Refusal)
    (new : SeatState) : Type 0 where
  pub event : OverLock (λ before after. Took before account wanted most words result after) old new
  pub tallies : TakeTallies result old.knows.tallies new.knows.tallies
  pub tells : TakeTells old.knows.limits account.space words result

-- A chunk grows or is refused it.
pub record GrewOver (old : SeatState) (account : AccountState) (start total : ℕ) (may_enlarge : Bool)
    (result : Result Span Refusal) (new : SeatState) : Type 0 where
  pub event : OverLock (λ before after. Grew before account start total may_enlarge result after) old new
  pub tallies : GrowTallies result old.knows.tallies new.knows.tallies
  pub tells : GrowTells old.knows.limits account start total result

-- An account is closed.
abbrev pub ClosedOver : SeatState → AccountState → SeatState → Type 0
ClosedOver old account new = OverLock (λ before after. Closed before account after) old new

-- The sums tell at least the account's own chunks, by level, in words and in words of fronts, and
-- the open accounts that the seat counts.
pub record CountsOwn (seat : SeatState) (account : AccountState) (totals : PoolTotals) : Type 0 where
  pub lent : (level : ℕ) → level < level_count
      → count_by (λ chunk. chunk.level == level) account.chunks ≤ slice_index totals.lent level
  pub capacity : capacity_of account.chunks ≤ totals.capacity
  pub fronts : fronts_of account.chunks ≤ totals.fronts
  pub accounts : opened_by seat.knows account.space ≤ totals.accounts

-- The sums of an account's space are told, of the pool as it then is.
pub record TotalledOver (old : SeatState) (account : AccountState) (totals : PoolTotals)
    (new : SeatState) : Type 0 where
  pub event : OverLock (λ before after. Totalled before account totals after) old new
  pub own : CountsOwn old account totals

-- Both accounts of a loader are opened, under numbers that follow one another, or refused; they are
-- closed, and have nothing then; and nodes are dropped.
pub record OpenedBothOver (old : SeatState) (result : Result (AccountState × AccountState) Refusal)
    (new : SeatState) : Type 0 where
  pub event : OverLock (λ before after. OpenedBoth before result after) old new
  pub new_are : IfOk result
      (λ accounts. accounts ≡ (new_account accounts.0.owner NonClass, new_account (accounts.0.owner + 1) Class))
  pub tallied : IfErr result (λ refusal. new.knows.tallies ≡ raise ids_of_open old.knows.tallies)

pub record ClosedBothOver (old : SeatState) (account class_account : AccountState) (new : SeatState) : Type 0 where
  pub event : OverLock (λ before after. ClosedBoth before account class_account after) old new
  pub none : ServesBy new.knows (new_account account.owner NonClass)
  pub class_none : ServesBy new.knows (new_account class_account.owner Class)

pub record PurgedOver (old : SeatState) (gone : ℕ) (new : SeatState) : Type 0 where
  pub event : OverLock (λ before after. Purged before gone after) old new
  pub tallies : new.knows.tallies ≡ old.knows.tallies

-- The same calls on a pool that the seat has: each is an event from the pool before to the pool
-- after.
abbrev pub TookHeld : HeldState → AccountState → ℕ → ℕ → ℕ → Result Span Refusal → HeldState → Type 0
TookHeld old account wanted most words result new =
    TookOver old.seat account wanted most words result new.seat × IsEvent old new

abbrev pub GrewHeld : HeldState → AccountState → ℕ → ℕ → Bool → Result Span Refusal → HeldState → Type 0
GrewHeld old account start total may_enlarge result new =
    GrewOver old.seat account start total may_enlarge result new.seat × IsEvent old new

abbrev pub ClosedHeld : HeldState → AccountState → HeldState → Type 0
ClosedHeld old account new = ClosedOver old.seat account new.seat × IsEvent old new

abbrev pub TotalledHeld : HeldState → AccountState → PoolTotals → HeldState → Type 0
TotalledHeld old account totals new = TotalledOver old.seat account totals new.seat × IsEvent old new

abbrev pub OpenedBothHeld : HeldState → Result (AccountState × AccountState) Refusal → HeldState → Type 0
OpenedBothHeld old result new = OpenedBothOver old.seat result new.seat × IsEvent old new

abbrev pub ClosedBothHeld : HeldState → AccountState → AccountState → HeldState → Type 0
ClosedBothHeld old account class_account new = ClosedBothOver old.seat account class_account new.seat × IsEvent old new

abbrev pub PurgedHeld : HeldState → ℕ → HeldState → Type 0
PurgedHeld old gone new = PurgedOver old.seat gone new.seat × IsEvent old new

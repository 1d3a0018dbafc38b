-- What a seat of the lock knows of the pool, and how callers see seats and lock (this project's
-- choice).
use Rattle.std.specs.Prelude.{◌≡◌, ◌≢◌, ℕ, zero, suc, ◌+◌, ◌-◌, ◌%◌, ◌^◌, ◌<◌, ◌≤◌, ◌==◌, cond, List, [], ◌∷◌, ◌++◌}
use Rattle.std.specs.Prelude.{length}
use Rattle.std.specs.List.{All, sum_by}
use Rattle.std.specs.List.Sorted.{IsPermutation}
use Rattle.atomic_table.specs.Seated.{TableId}
use Rattle.ms_base.specs.declared.kind.Space.{Space}
use Rattle.ms_base.specs.declared.span.Chunk.{Chunk}
use Rattle.ms_base.specs.Spaces.{by_space}
use Rattle.ms_base.specs.State.{Limits}
use Rattle.ms_pool.specs.Account.{AccountState}
use Rattle.ms_pool.specs.Tallies.{Tallies, no_tallies, one_more}
use Rattle.ms_pool.specs.Ledger.{Ledger, IsSoundLedger, opened_in}
use Rattle.ms_shared.specs.Entries.{Has, AreRecords, times, one_if, once_given, refreshed, fresh, only, all_but}
use Rattle.ms_shared.specs.History.{Event, Logged, Strand, Chain, events_in, events_of, AreBelow, first_strand}
use Rattle.ms_shared.specs.declared.lock_rule.SeatView.{SeatView}
use Rattle.ms_shared.specs.declared.lock_rule.LockView.{LockView}

-- The five tallies, each by its name.
pub data TallyKind : Type 0 where
  commit_of_take : TallyKind
  reserve_of_take : TallyKind
  commit_of_grow : TallyKind
  room_of_grow : TallyKind
  ids_of_open : TallyKind

abbrev pub tally_of : TallyKind → Tallies → ℕ
tally_of commit_of_take tallies = tallies.take_commit
tally_of reserve_of_take tallies = tallies.take_reserve
tally_of commit_of_grow tallies = tallies.grow_commit
tally_of room_of_grow tallies = tallies.grow_room
tally_of ids_of_open tallies = tallies.open_ids

-- How many open accounts of a space a seat counts.
abbrev pub opened_by : SeatView → Space → ℕ
opened_by view space = by_space space view.opened view.class_opened

-- A seat serves an account: the pool's record of its owner, which it knows, has the account's
-- chunks, in whatever order.
pub record ServesBy (view : SeatView) (account : AccountState) : Type 0 where
  pub chunks : List Chunk
  pub entry : Has view.served account.owner chunks
  pub same : IsPermutation chunks account.chunks

-- What is true of the pool whenever the seat finds it: what the seat knows of it, and it counts as
-- many open accounts as the seat does, or more.
pub record IsKnown (pool : Ledger) (view : SeatView) : Type 0 where
  pub served : AreRecords pool view.served
  pub limits : pool.limits ≡ view.limits
  pub opened : (space : Space) → opened_by view space ≤ opened_in pool space

-- A seat's tally is raised where the pool's has changed.
abbrev pub raised_with : ℕ → ℕ → ℕ → ℕ
raised_with before after tally = cond (after == before) tally (one_more tally)

abbrev pub tallies_after : Tallies → Tallies → Tallies → Tallies
tallies_after before after tallies =
    record {
      take_commit = raised_with before.take_commit after.take_commit tallies.take_commit;
      take_reserve = raised_with before.take_reserve after.take_reserve tallies.take_reserve;
      grow_commit = raised_with before.grow_commit after.grow_commit tallies.grow_commit;
      grow_room = raised_with before.grow_room after.grow_room tallies.grow_room;
      open_ids = raised_with before.open_ids after.open_ids tallies.open_ids;
    }

-- What a seat knows once it has called the pool: the records of its owners as they are now, of the
-- owners whose numbers were given out too, and its counts and tallies moved as the pool's have.
abbrev pub view_after : Ledger → Ledger → SeatView → SeatView
view_after before after view =
    record {
      served = refreshed after view.served ++ fresh after before.given (after.given - before.given);
      opened = (view.opened + after.opened) - before.opened;
      class_opened = (view.class_opened + after.class_opened) - before.class_opened;
      tallies = tallies_after before.tallies after.tallies view.tallies;
      limits = view.limits;
    }

-- A seat that knows the limits and no more, and one that knows all of a pool.
abbrev pub knows_limits : Limits → SeatView
knows_limits limits = record { served = []; opened = 0; class_opened = 0; tallies = no_tallies; limits = limits }

abbrev pub knows_all : Ledger → SeatView
knows_all pool =
    record {
      served = fresh pool 0 pool.given;
      opened = pool.opened;
      class_opened = pool.class_opened;
      tallies = pool.tallies;
      limits = pool.limits;
    }

-- Two seats in one. Tallies aren't reduced, since no machine has them.
abbrev pub tallies_of_both : Tallies → Tallies → Tallies
tallies_of_both tallies others =
    record {
      take_commit = tallies.take_commit + others.take_commit;
      take_reserve = tallies.take_reserve + others.take_reserve;
      grow_commit = tallies.grow_commit + others.grow_commit;
      grow_room = tallies.grow_room + others.grow_room;
      open_ids = tallies.open_ids + others.open_ids;
    }

abbrev pub knows_both : SeatView → SeatView → SeatView
knows_both view other =
    record {
      served = view.served ++ other.served;
      opened = view.opened + other.opened;
      class_opened = view.class_opened + other.class_opened;
      tallies = tallies_of_both view.tallies other.tallies;
      limits = view.limits;
    }

-- A seat that hands an owner's account on, with one of the count; what goes over; and a seat that
-- takes it in.
abbrev pub without_account : ℕ → Space → SeatView → SeatView
without_account owner space view =
    record view {
      served = all_but owner view.served;
      opened = by_space space (view.opened - 1) view.opened;
      class_opened = by_space space view.class_opened (view.class_opened - 1);
    }

abbrev pub account_alone : ℕ → Space → SeatView → SeatView
account_alone owner space view =
    record {
      served = only owner view.served;
      opened = by_space {X = ℕ} space 1 0;
      class_opened = by_space {X = ℕ} space 0 1;
      tallies = no_tallies;
      limits = view.limits;
    }

abbrev pub with_account : ℕ → Space → SeatView → SeatView → SeatView
with_account owner space from view =
    record view {
      served = view.served ++ only owner from.served;
      opened = by_space space (view.opened + 1) view.opened;
      class_opened = by_space space view.class_opened (view.class_opened + 1);
    }

-- An account has gone from one seat to another. That one serves it from then on, and still what it
-- served before; the seat that it came from serves all its other accounts. One of the count of the
-- account's space has gone with it.
pub record HandsOn (from_old to_old : SeatView) (account : AccountState) (from_new to_new : SeatView) : Type 0 where
  pub served : ServesBy to_new account
  pub others : (other : AccountState) → other.owner ≢ account.owner → ServesBy from_old other → ServesBy from_new other
  pub to_others : (other : AccountState) → ServesBy to_old other → ServesBy to_new other
  pub counted : opened_by to_new account.space ≡ opened_by to_old account.space + 1
  pub from_counted : opened_by from_new account.space + 1 ≡ opened_by from_old account.space

-- A lock as its callers see it: which one it is, how many seats it was made with, and its pool as
-- it was then.
pub record LockState : Type 0 where
  pub id : TableId
  pub seats : ℕ
  pub first : Ledger

-- A seat: of which lock, its number, its own events in their order, and what it knows.
pub record SeatState : Type 0 where
  pub id : TableId
  pub number : ℕ
  pub events : List Event
  pub knows : SeatView

abbrev pub seat_with : TableId → Strand → SeatView → SeatState
seat_with id strand knows = record { id = id; number = strand.0; events = strand.1; knows = knows }

-- A seat of a lock, as its view says.
abbrev pub seat_of : TableId → LockView → SeatState
seat_of id view = seat_with id (first_strand view.strands) view.knows

-- A seat that has the pool, and the pool as it is now: what the seat knows is said of that.
pub record HeldState : Type 0 where
  pub seat : SeatState
  pub pool : Ledger

-- A call on a pool that the seat has is the seat's last event, from the pool before to the pool
-- after.
abbrev pub IsEvent : HeldState → HeldState → Type 0
IsEvent old new = new.seat.events ≡ old.seat.events ++ (old.pool, new.pool) ∷ []

-- The seats of a new lock, numbered from 0 on, with no event: the first knows all of the pool, the
-- others know its limits alone.
abbrev pub spare_seats : TableId → Limits → ℕ → ℕ → List SeatState
spare_seats id limits first zero = []
spare_seats id limits first (suc n) =
    seat_with id (first, []) (knows_limits limits) ∷ spare_seats id limits (suc first) n

abbrev pub new_seats : TableId → ℕ → Ledger → List SeatState
new_seats id made pool = seat_with id (0, []) (knows_all pool) ∷ spare_seats id pool.limits 1 (made - 1)

-- All seats of a lock and the pool that it gives out: the records that seats know are the pool's,
-- each owner number given out is served by one seat, once, and counts and tallies are the sums of
-- the seats'.
pub record Gathers (seats : List SeatState) (pool : Ledger) : Type 0 where
  pub served : All (λ seat. AreRecords pool seat.knows.served) seats
  pub once : (owner : ℕ) → sum_by (λ seat. times owner seat.knows.served) seats ≡ once_given owner pool.given
  pub opened : (space : Space) → opened_in pool space ≡ sum_by (λ seat. opened_by seat.knows space) seats
  pub tallies : (kind : TallyKind)
      → tally_of kind pool.tallies ≡ sum_by (λ seat. tally_of kind seat.knows.tallies) seats % 2 ^ 64

-- All seats of a lock and the pool that it gives out: one history of events leads from the lock's
-- first pool to this one. Each seat has just its own events of it, in their order, and each event
-- is of one seat.
pub record IsHistory (first : Ledger) (seats : List SeatState) (pool : Ledger) : Type 0 where
  pub log : List Logged
  pub chain : Chain first (events_in log) pool
  pub numbered : AreBelow (length seats) log
  pub own : All (λ seat. seat.events ≡ events_of seat.number log) seats
  pub once : (number : ℕ) → number < length seats → sum_by (λ seat. one_if (seat.number == number)) seats ≡ 1

-- A call over the lock is one event on the sound pool that the seat finds: by its relation the pool
-- becomes another sound one. The event is the seat's last one, and the seat knows then what its
-- records, counts and tallies have become.
pub record OverLock (event : Ledger → Ledger → Type 0) (old new : SeatState) : Type 0 where
  pub before : Ledger
  pub after : Ledger
  pub sound : IsSoundLedger before
  pub sound_after : IsSoundLedger after
  pub known : IsKnown before old.knows
  pub called : event before after
  pub left : new
      ≡ record old { events = old.events ++ (before, after) ∷ []; knows = view_after before after old.knows }

-- One tally raised by one.
abbrev pub raise : TallyKind → Tallies → Tallies
raise commit_of_take tallies = record tallies { take_commit = one_more tallies.take_commit }
raise reserve_of_take tallies = record tallies { take_reserve = one_more tallies.take_reserve }
raise commit_of_grow tallies = record tallies { grow_commit = one_more tallies.grow_commit }
raise room_of_grow tallies = record tallies { grow_room = one_more tallies.grow_room }
raise ids_of_open tallies = record tallies { open_ids = one_more tallies.open_ids }

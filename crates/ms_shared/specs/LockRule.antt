-- The rule of a pool behind a lock: one word, which is 1 while a seat has the pool, and one slot
-- for it (this project's choice).
use Rattle.std.specs.Prelude.{◌≡◌, ◌≢◌, ℕ, ◌+◌, ◌-◌, ◌*◌, ◌%◌, ◌^◌, ◌<◌, ◌≤◌, ◌⊎◌, List, [], ◌∷◌, ◌++◌, length}
use Rattle.std.specs.Prelude.{slice_index, Option, Some, None}
use Rattle.std.specs.List.{sum_by}
use mathlib.Core.Option.{some}
use lib.ListN.{get_elem?}
use Rattle.atomic_table.specs.Table.{State, Me, Step}
use Rattle.atomic_table.specs.Seated.{TableId}
use Rattle.ms_base.specs.declared.kind.Space.{Space}
use Rattle.ms_base.specs.State.{Limits}
use Rattle.ms_base.specs.declared.policy.Policy.TheVariants.{Balanced}
use Rattle.ms_pool.specs.Tallies.{one_more}
use Rattle.ms_pool.specs.Ledger.{Ledger, chunks_of, empty_ledger, opened_in}
use Rattle.ms_shared.specs.Entries.{times, once_given, AreRecords}
use Rattle.ms_shared.specs.History.{Logged, Chain, events_in, AreBelow, AreStrands, strands_with, extended, no_events}
use Rattle.ms_shared.specs.History.{front, later}
use Rattle.ms_shared.specs.SeatView.{TallyKind, tally_of, opened_by, IsKnown, view_after, knows_limits, knows_all}
use Rattle.ms_shared.specs.SeatView.{knows_both, without_account, account_alone}
use Rattle.ms_shared.specs.declared.lock_rule.SeatView.{SeatView}
use Rattle.ms_shared.specs.declared.lock_rule.LockView.{LockView}

-- One for a view that has the pool.
abbrev pub count_some : Option Ledger → ℕ
count_some None = 0
count_some (Some pool) = 1

abbrev pub has_pool : LockView → ℕ
has_pool view = count_some view.taken

-- A view of so many parts that knows the limits alone.
abbrev pub blank : ℕ → Limits → LockView
blank parts limits = record { parts = parts; strands = []; knows = knows_limits limits; taken = None }

-- A view without a part has no number, serves no owner, counts nothing and has no pool.
pub record IsIdle (view : LockView) : Type 0 where
  pub strands : view.strands ≡ []
  pub served : view.knows.served ≡ []
  pub opened : (space : Space) → opened_by view.knows space ≡ 0
  pub tallies : (kind : TallyKind) → tally_of kind view.knows.tallies ≡ 0
  pub taken : view.taken ≡ None

-- A view fits the pool: its records are the pool's, and so are its limits.
pub record Fits (pool : Ledger) (view : LockView) : Type 0 where
  pub served : AreRecords pool view.knows.served
  pub limits : 0 < view.parts → view.knows.limits ≡ pool.limits
  pub idle : view.parts ≡ 0 → IsIdle view

-- There is one history of events from the first pool to this one. Each seat made has one number,
-- with just its own events of it.
pub record IsLogged (made : ℕ) (first pool : Ledger) (views : List LockView) : Type 0 where
  pub log : List Logged
  pub chain : Chain first (events_in log) pool
  pub numbered : AreBelow made log
  pub own : (seat : ℕ) (view : LockView) → get_elem? views seat ≡ some view → AreStrands made log view.strands
  pub once : (n : ℕ) → n < made → sum_by (λ view. strands_with n view.strands) views ≡ 1

-- There is a pool, in the slot or with the one seat that took it, that each view fits. Each owner
-- number that it gave out is served by one seat, once, and its counts and tallies are the sums of
-- the seats'. One history leads to it.
pub record IsLocked (made : ℕ) (first : Ledger) (state : State (Option Ledger) LockView) : Type 0 where
  pub pool : Ledger
  pub history : IsLogged made first pool state.views
  pub word : length state.words ≡ 1
  pub bit : slice_index state.words 0 ≤ 1
  pub home : length state.homes ≡ 1
  pub lock : sum_by has_pool state.views ≡ slice_index state.words 0
  pub free : slice_index state.words 0 ≡ 0 → get_elem? state.homes 0 ≡ some (some (Some pool))
  pub out : (seat : ℕ) (view : LockView) (taken : Ledger) → get_elem? state.views seat ≡ some view
      → view.taken ≡ Some taken → taken ≡ pool
  pub fits : (seat : ℕ) (view : LockView) → get_elem? state.views seat ≡ some view → Fits pool view
  pub once : (owner : ℕ) → sum_by (λ view. times owner view.knows.served) state.views ≡ once_given owner pool.given
  pub opened : (space : Space) → sum_by (λ view. opened_by view.knows space) state.views ≡ opened_in pool space
  pub tallies : (kind : TallyKind)
      → tally_of kind pool.tallies ≡ sum_by (λ view. tally_of kind view.knows.tallies) state.views % 2 ^ 64
  pub limits_are : pool.limits ≡ first.limits
  pub parts : sum_by (λ view. view.parts) state.views ≡ made * 2

-- A seat of the table: its view, and the slot that it took.
abbrev pub Sat : Type 0
Sat = Me (Option Ledger) LockView

-- A seat of the lock that has both of its parts, and neither slot nor pool.
pub record IsWhole (lock id : TableId) (seat : Sat) : Type 0 where
  pub own : id ≡ lock
  pub slots : seat.1 ≡ []
  pub parts : seat.0.parts ≡ 2
  pub free : seat.0.taken ≡ None

-- The seat has the pool.
abbrev pub with_pool : LockView → Ledger → LockView
with_pool view pool = record view { taken = Some pool }

-- The seat takes the pool, which it knows, out of the slot.
abbrev pub Seizes : Sat → Sat → Type 0
Seizes old new = (pool : Ledger) × (new ≡ (with_pool old.0 pool, (0, Some pool) ∷ old.1)) × IsKnown pool old.0.knows

-- The word was 0 and the seat has the pool, or it was not, and nothing changes.
abbrev pub Tries : Step (Option Ledger) → Sat → ℕ → Sat → Type 0
Tries step old found new = (found ≡ 0 → Seizes old new) × (found ≢ 0 → new ≡ old)

-- What a seat may make of the pool while it has it: the records of owners that it doesn't serve
-- stay, no number is taken back, and each tally stays or is raised by one.
pub record Moves (view : SeatView) (old new : Ledger) : Type 0 where
  pub given : old.given ≤ new.given
  pub others : (owner : ℕ) → times owner view.served ≡ 0 → chunks_of new owner ≡ chunks_of old owner
  pub counted : (space : Space) → opened_in old space ≤ opened_by view space + opened_in new space
  pub limits : new.limits ≡ old.limits
  pub tallies : (kind : TallyKind)
      → (tally_of kind new.tallies ≡ tally_of kind old.tallies)
      ⊎ (tally_of kind new.tallies ≡ one_more (tally_of kind old.tallies))

-- The view once the pool is put back as another, which is an event of its own.
abbrev pub after : LockView → Ledger → Ledger → LockView
after view old new = record {
  parts = view.parts;
  strands = extended (old, new) view.strands;
  knows = view_after old new view.knows;
  taken = None;
}

-- Limits of a pool that is none.
abbrev pub no_limits : Limits
no_limits = record { nodes = 0; granules = 0; policy = Balanced; class_nodes = 0 }

-- What is left of a seat that another has taken in.
abbrev pub nothing : LockView
nothing = blank 0 no_limits

-- The pool that a view has.
abbrev pub some_pool : Option Ledger → Ledger
some_pool (Some pool) = pool
some_pool None = empty_ledger no_limits

abbrev pub taken_of : LockView → Ledger
taken_of view = some_pool view.taken

-- The pool is back in the slot, as it is now.
abbrev pub LetsGo : Step (Option Ledger) → Sat → ℕ → Sat → Type 0
LetsGo step old stored new =
    (pool : Ledger) → old.1 ≡ (0, Some pool) ∷ [] → new ≡ (after old.0 (taken_of old.0) pool, [])

-- The seat still has the pool, which is another now: an event of its own.
abbrev pub noted : LockView → Ledger → LockView
noted view new = with_pool (after view (taken_of view) new) new

abbrev pub Notes : Ledger → Step (Option Ledger) → Sat → ℕ → Sat → Type 0
Notes pool step old found new = new ≡ (noted old.0 pool, old.1)

-- The pool that the seat has is back in the slot, with no event more.
abbrev pub without_pool : LockView → LockView
without_pool view = record view { taken = None }

abbrev pub PutsBack : Step (Option Ledger) → Sat → ℕ → Sat → Type 0
PutsBack step old stored new = new ≡ (without_pool old.0, [])

-- The first view, of all seats, and how it is cut: all that it knows goes with the first two parts
-- and the first number.
abbrev pub first_view : ℕ → Ledger → LockView
first_view made pool = record { parts = made * 2; strands = no_events 0 made; knows = knows_all pool; taken = None }

abbrev pub own_seat : LockView → LockView
own_seat view = record view { parts = 2; strands = front view.strands }

abbrev pub other_seats : LockView → LockView
other_seats view = record (blank (view.parts - 2) view.knows.limits) { strands = later view.strands }

-- A view cut by an owner: an account goes with one part and one of the count, as a note. And a view
-- from which a part is cut off that knows nothing.
abbrev pub view_without : ℕ → Space → LockView → LockView
view_without owner space view = record view { parts = view.parts - 1; knows = without_account owner space view.knows }

abbrev pub note_of : ℕ → Space → LockView → LockView
note_of owner space view =
    record { parts = 1; strands = []; knows = account_alone owner space view.knows; taken = None }

abbrev pub less_part : LockView → LockView
less_part view = record view { parts = view.parts - 1 }

abbrev pub spare_part : LockView → LockView
spare_part view = blank 1 view.knows.limits

-- Two views in one.
abbrev pub both : LockView → LockView → LockView
both view other =
    record view {
      parts = view.parts + other.parts;
      strands = view.strands ++ other.strands;
      knows = knows_both view.knows other.knows;
    }

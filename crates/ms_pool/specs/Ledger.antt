-- The pool as its callers see it: what is lent to whom, which nodes are reserved, which granules
-- are committed, and what was counted.
use Rattle.std.specs.Prelude.{ℕ, ◌+◌, ◌-◌, ◌<◌, ◌≤◌, ◌^◌, ◌==◌, not, cond, nat_lt, Bool, List, [], ◌∷◌, length, map}
use Rattle.std.specs.List.{All, filter}
use Rattle.std.specs.List.Sorted.{IsStrictlyIncreasing, IsPermutation}
use Rattle.ms_base.specs.declared.kind.Space.{Space}
use Rattle.ms_base.specs.declared.kind.Space.TheVariants.{NonClass, Class}
use Rattle.ms_base.specs.declared.span.Chunk.{Chunk}
use Rattle.ms_base.specs.Held.{has_chunk_in}
use Rattle.ms_base.specs.Spaces.{other_space, by_space, class_slots, first_class_slot, is_in}
use Rattle.ms_base.specs.State.{Limits, PoolState, committed_now}
use Rattle.ms_base.specs.Good.{IsSoundPool}
use Rattle.ms_base.specs.PoolSteps.{slots_with}
use Rattle.ms_pool.specs.Account.{AccountState}
use Rattle.ms_pool.specs.Tallies.{Tallies, no_tallies}

-- A chunk that is lent, with the number of its owner.
pub record Loan : Type 0 where
  pub owner : ℕ
  pub chunk : Chunk

-- A pool has the loans of both spaces in order of address, the reserved slots in rising order
-- without those of the class space, the committed granules of each space in rising order; how many
-- owner numbers were given out, how many accounts of each space are open, the tallies, the limits.
pub record Ledger : Type 0 where
  pub loans : List Loan
  pub slots : List ℕ
  pub committed : List ℕ
  pub class_committed : List ℕ
  pub given : ℕ
  pub opened : ℕ
  pub class_opened : ℕ
  pub tallies : Tallies
  pub limits : Limits

-- A pool of which nothing was asked yet.
abbrev pub empty_ledger : Limits → Ledger
empty_ledger limits =
    record {
      loans = [];
      slots = [];
      committed = [];
      class_committed = [];
      given = 0;
      opened = 0;
      class_opened = 0;
      tallies = no_tallies;
      limits = limits;
    }

-- The chunks that are lent in a space, and those of one owner, in order of address.
abbrev pub held_in : Space → Ledger → List Chunk
held_in space ledger = filter (λ chunk. is_in space chunk.start) (map (λ (loan : Loan). loan.chunk) ledger.loans)

abbrev pub is_owned_by : ℕ → Loan → Bool
is_owned_by owner loan = loan.owner == owner

abbrev pub chunks_of : Ledger → ℕ → List Chunk
chunks_of ledger owner = map (λ (loan : Loan). loan.chunk) (filter (is_owned_by owner) ledger.loans)

-- The committed granules of a space, and how many accounts are open in it.
abbrev pub committed_of : Space → Ledger → List ℕ
committed_of space ledger = by_space space ledger.committed ledger.class_committed

abbrev pub opened_in : Ledger → Space → ℕ
opened_in ledger space = by_space space ledger.opened ledger.class_opened

-- One space of the pool, as the model's searches and causes see it.
abbrev pub state_in : Space → Ledger → PoolState
state_in space ledger = record {
  space = space;
  held = held_in space ledger;
  slots = by_space space ledger.slots (class_slots ledger.limits.class_nodes);
  committed = committed_of space ledger;
  elsewhere = length (committed_of (other_space space) ledger);
  limits = ledger.limits;
}

-- The pool serves an account: it gave its number out, and its record of that owner has the
-- account's chunks, in whatever order.
pub record Serves (ledger : Ledger) (account : AccountState) : Type 0 where
  pub some : 1 ≤ account.owner
  pub given : account.owner ≤ ledger.given
  pub chunks : IsPermutation (chunks_of ledger account.owner) account.chunks

-- What is true of every pool: each space is sound, loans stand in order of address and belong to
-- owners whose numbers were given out, and each open account has a number of its own.
pub record IsSoundLedger (ledger : Ledger) : Type 0 where
  pub spaces : (space : Space) → IsSoundPool (state_in space ledger)
  pub order : IsStrictlyIncreasing (map (λ (loan : Loan). loan.chunk.start) ledger.loans)
  pub owners : All (λ (loan : Loan). (1 ≤ loan.owner) × (loan.owner ≤ ledger.given)) ledger.loans
  pub given : ledger.given < 2 ^ 32
  pub opened : ledger.opened + ledger.class_opened ≤ ledger.given
  pub nodes : (1 ≤ ledger.limits.nodes) × (ledger.limits.nodes ≤ first_class_slot)
  pub class_nodes : ledger.limits.class_nodes ≤ 16

-- The pool once its granules follow its loans and slots.
abbrev pub recommitted : Ledger → Ledger
recommitted ledger = record ledger {
  committed = committed_now (state_in NonClass ledger);
  class_committed = committed_now (state_in Class ledger);
}

-- One loan more, in its place.
abbrev pub with_loan : Loan → List Loan → List Loan
with_loan added [] = added ∷ []
with_loan added (loan ∷ loans) =
    cond (nat_lt loan.chunk.start added.chunk.start) (loan ∷ with_loan added loans) (added ∷ loan ∷ loans)

-- The pool once it has lent a chunk in a space: in a reserved slot, or in one that is reserved for
-- it.
abbrev pub with_lent : Ledger → Space → ℕ → Chunk → Ledger
with_lent ledger space owner chunk =
    recommitted (record ledger {
      loans = with_loan (record { owner = owner; chunk = chunk }) ledger.loans;
      slots = by_space space (slots_with ledger.slots chunk.start) ledger.slots;
    })

-- The pool once the chunk that starts there has grown.
abbrev pub with_grown : Ledger → Chunk → Ledger
with_grown ledger chunk =
    recommitted (record ledger {
      loans = map (λ (loan : Loan). cond (loan.chunk.start == chunk.start) (record loan { chunk = chunk }) loan)
          ledger.loans;
    })

-- The loans that are not an owner's.
abbrev pub others_than : ℕ → List Loan → List Loan
others_than owner loans = filter (λ loan. not (is_owned_by owner loan)) loans

-- The pool with one account less in a space.
abbrev pub with_less_open : Space → Ledger → Ledger
with_less_open space ledger =
    record ledger {
      opened = by_space space (ledger.opened - 1) ledger.opened;
      class_opened = by_space space ledger.class_opened (ledger.class_opened - 1);
    }

-- The pool once an account is closed: all its chunks are free.
abbrev pub with_closed : Ledger → AccountState → Ledger
with_closed ledger account =
    recommitted (with_less_open account.space (record ledger { loans = others_than account.owner ledger.loans }))

-- The pool once the accounts of both spaces are closed together.
abbrev pub with_both_closed : Ledger → AccountState → AccountState → Ledger
with_both_closed ledger account class_account =
    recommitted (with_less_open NonClass (with_less_open Class
    (record ledger { loans = others_than class_account.owner (others_than account.owner ledger.loans) })))

-- The pool with one account more in a space.
abbrev pub with_opened : Ledger → Space → Ledger
with_opened ledger space =
    record ledger {
      given = ledger.given + 1;
      opened = by_space space (ledger.opened + 1) ledger.opened;
      class_opened = by_space space ledger.class_opened (ledger.class_opened + 1);
    }

-- The pool without the nodes that hold no chunk; those of the class space stay.
abbrev pub purged : Ledger → Ledger
purged ledger = recommitted (record ledger { slots = filter (has_chunk_in (held_in NonClass ledger)) ledger.slots })

-- What a call on any source of chunks leaves as it is, and what it may be refused with.
use Rattle.std.specs.Prelude.{◌≡◌, ◌≢◌, ℕ, IsTrue}
use Rattle.ms_base.specs.declared.kind.Space.{Space}
use Rattle.ms_base.specs.declared.kind.Space.TheVariants.{NonClass, Class}
use Rattle.ms_base.specs.declared.refusal.Refusal.{Refusal}
use Rattle.ms_base.specs.declared.refusal.Refusal.TheVariants.{CommitLimit, ReserveLimit, OutOfMemory, IdsUsedUp}
use Rattle.ms_base.specs.declared.refusal.Refusal.TheVariants.{NoRoom}
use Rattle.ms_base.specs.State.{Limits}
use Rattle.ms_pool.specs.Account.{AccountState, has_chunk_at}
use Rattle.ms_pool.specs.Lending.{MayTake}

-- What whoever takes a chunk has to see to, and whoever has one grow: the source serves the account,
-- levels and words may be asked for, and the account has the chunk.
pub record CanTake {S : Type 0} (serves : S → AccountState → Type 0) (source : S) (account : AccountState)
    (wanted most words : ℕ) : Type 0 where
  pub served : serves source account
  pub asks : MayTake wanted most words

pub record CanGrow {S : Type 0} (serves : S → AccountState → Type 0) (source : S) (account : AccountState)
    (start : ℕ) : Type 0 where
  pub served : serves source account
  pub held : IsTrue (has_chunk_at account.chunks start)

-- A call for one owner's account leaves the rest: the accounts of other owners stay served, in each
-- space as many accounts are open, and the limits are the same.
pub record LeavesRest {S : Type 0} (serves : S → AccountState → Type 0) (opened : S → Space → ℕ)
    (limits : S → Limits) (owner : ℕ) (old new : S) : Type 0 where
  pub others : (other : AccountState) → other.owner ≢ owner → serves old other → serves new other
  pub counted : opened new ≡ opened old
  pub limits_stay : limits new ≡ limits old

-- The accounts of a loader are both served: one outside the class space, and one in it.
pub record ServesBoth {S : Type 0} (serves : S → AccountState → Type 0) (source : S)
    (account class_account : AccountState) : Type 0 where
  pub served : serves source account
  pub class_served : serves source class_account
  pub space : account.space ≡ NonClass
  pub class_space : class_account.space ≡ Class

-- Why a source lends no chunk: a limit is met, or memory is wanting.
abbrev pub IsTakeRefusal : Refusal → Type 0
IsTakeRefusal (CommitLimit committed limit need) = Unit {0}
IsTakeRefusal (ReserveLimit nodes limit) = Unit {0}
IsTakeRefusal OutOfMemory = Unit {0}
IsTakeRefusal _ = ⊥

-- Why it lets no chunk grow: the limit of granules is met, or there is no room in the chunk's place.
abbrev pub IsGrowRefusal : Refusal → Type 0
IsGrowRefusal (CommitLimit committed limit need) = Unit {0}
IsGrowRefusal (NoRoom level) = Unit {0}
IsGrowRefusal _ = ⊥

-- Why it opens no account: the owner numbers are used up, or memory is wanting.
abbrev pub IsOpenRefusal : Refusal → Type 0
IsOpenRefusal IdsUsedUp = Unit {0}
IsOpenRefusal OutOfMemory = Unit {0}
IsOpenRefusal _ = ⊥

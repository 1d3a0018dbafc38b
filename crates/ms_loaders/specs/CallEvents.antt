-- The calls of the pool as events: what a call makes of a pool's ledger, and of the loaders whose
-- accounts it serves, is an event at the machine that both are (this project's choice).
use Rattle.ms_base.specs.Level.{highest_level}
use Rattle.std.specs.Prelude.{◌≡◌, ℕ, ◌<◌, ◌≤◌, ◌^◌, Bool, List, [], Some, None, Result, Ok, Err, IfOk, OnErr}
use Rattle.ms_base.specs.declared.kind.Kind.{Kind}
use Rattle.ms_base.specs.declared.kind.Space.{Space}
use Rattle.ms_base.specs.declared.kind.Space.TheVariants.{NonClass, Class}
use Rattle.ms_base.specs.declared.span.Chunk.{Chunk}
use Rattle.ms_base.specs.declared.span.Span.{Span}
use Rattle.ms_base.specs.declared.refusal.Refusal.{Refusal}
use Rattle.ms_base.specs.Names.{named, with_new, with_changed, without}
use Rattle.ms_base.specs.State.{arena_of, with_arena}
use Rattle.ms_base.specs.Run.Event.{Event, opening, taking, growing, closing, purging, telling}
use Rattle.ms_base.specs.Run.Event.{Answer, accepted, lent, counted, told, refused, Happens}
use Rattle.ms_pool.specs.declared.totals.PoolTotals.{PoolTotals}
use Rattle.ms_pool.specs.Account.{AccountState}
use Rattle.ms_pool.specs.Lending.{MayTake, Adds, Grows, span_of}
use Rattle.ms_pool.specs.Ledger.{Ledger}
use Rattle.ms_pool.specs.Calls.{OpenedBoth, Took, Grew, ClosedBoth, Purged, Totalled, sums_in}
use Rattle.ms_loader.specs.Loader.{LoaderView, account_in, new_loader, with_state}
use Rattle.ms_loaders.specs.System.{machine_of, AreTogether}

-- The event happens, with the answer, at the machine that pool and loaders are, and these belong
-- together still, as a `System` keeps them between its calls: so the next call is an event too.
pub record IsEvent (old : Ledger) (loaders : List (ℕ × LoaderView)) (event : Event) (answer : Answer) (new : Ledger)
    (others : List (ℕ × LoaderView)) : Type 0 where
  pub happens : Happens (machine_of old loaders) event answer (machine_of new others)
  pub together : AreTogether new others

-- `Pool::purge` is a purging, and counts the nodes that go.
abbrev pub PurgesAreEvents : Type 0
PurgesAreEvents =
    (old new : Ledger) (loaders : List (ℕ × LoaderView)) (gone : ℕ) → AreTogether old loaders → Purged old gone new
    → IsEvent old loaders purging (counted gone) new loaders

-- `Pool::totals` tells the sums of the account's space.
abbrev pub TotalsAreEvents : Type 0
TotalsAreEvents =
    (old new : Ledger) (loaders : List (ℕ × LoaderView)) (account : AccountState) (totals : PoolTotals)
    → AreTogether old loaders → Totalled old account totals new
    → IsEvent old loaders (telling account.space) (told (sums_in totals)) new loaders

-- The loader is there under its name: from its opening to its closing, between the calls of one
-- step too, though the program's map has it a little later and gives it up a little sooner.
pub record IsThere (ledger : Ledger) (loaders : List (ℕ × LoaderView)) (name : ℕ) (loader : LoaderView) : Type 0 where
  pub together : AreTogether ledger loaders
  pub found : named loaders name ≡ Some loader

-- A call of `Pool::close_both` for a loader's accounts. The loader has neither live nor free
-- blocks: an unload drops its books before, which is the local event of it, and one just made has
-- none.
pub record IsCloseCall (old : Ledger) (loaders : List (ℕ × LoaderView)) (name : ℕ) (loader : LoaderView)
    (new : Ledger) : Type 0 where
  pub there : IsThere old loaders name loader
  pub blocks : loader.state.blocks ≡ []
  pub kept : (space : Space) → (arena_of space loader.state).kept ≡ []
  pub closed : ClosedBoth old (account_in NonClass loader) (account_in Class loader) new

-- It is the closing of that loader, which is gone then.
abbrev pub ClosesAreEvents : Type 0
ClosesAreEvents =
    (old new : Ledger) (loaders : List (ℕ × LoaderView)) (name : ℕ) (loader : LoaderView)
    → IsCloseCall old loaders name loader new
    → IsEvent old loaders (closing name) accepted new (without loaders name)

-- A call of `Pool::open_both` for a name that no loader has: it is looked for before. That numbers
-- were left is the call's clause `given`.
pub record IsOpenCall (old : Ledger) (loaders : List (ℕ × LoaderView)) (name : ℕ)
    (result : Result (AccountState × AccountState) Refusal) (new : Ledger) : Type 0 where
  pub together : AreTogether old loaders
  pub unused : named loaders name ≡ None
  pub opened : OpenedBoth old result new
  pub given : new.given < 2 ^ 32

-- What it opens: a loader of the two accounts stands under the name, or nothing changes.
abbrev pub OpensLoader : Ledger → List (ℕ × LoaderView) → ℕ → Kind → Result (AccountState × AccountState) Refusal
    → Ledger → Type 0
OpensLoader old loaders name kind (Ok accounts) new =
    IsEvent old loaders (opening name kind) accepted new
    (with_new loaders name (new_loader accounts.0 accounts.1 kind))
OpensLoader old loaders name kind (Err refusal) new =
    IsEvent old loaders (opening name kind) (refused refusal) new loaders

-- It is the opening of a loader, of any kind.
abbrev pub OpensAreEvents : Type 0
OpensAreEvents =
    (old new : Ledger) (loaders : List (ℕ × LoaderView)) (name : ℕ) (kind : Kind)
    (result : Result (AccountState × AccountState) Refusal) → IsOpenCall old loaders name result new
    → OpensLoader old loaders name kind result new

-- The loader with these chunks in a space, as its account has them after a call; all else stays.
abbrev pub with_chunks : Space → LoaderView → List Chunk → LoaderView
with_chunks space loader chunks =
    with_state loader (with_arena space loader.state (record (arena_of space loader.state) { chunks = chunks }))

-- The event's answer is what a call answers: the chunk that lies there, or the refusal.
abbrev pub AnswersAs : Result Span Refusal → Answer → Type 0
AnswersAs (Ok span) (lent chunk) = span ≡ span_of chunk
AnswersAs (Err refusal) (refused other) = other ≡ refusal
AnswersAs _ _ = ⊥

-- A call for a loader's account is the event: the loader has the chunks then that the call leaves
-- to the account.
pub record IsAnswered (space : Space) (old : Ledger) (loaders : List (ℕ × LoaderView)) (name : ℕ) (loader : LoaderView)
    (event : Event) (result : Result Span Refusal) (account : AccountState) (new : Ledger) : Type 0 where
  pub answer : Answer
  pub answers : AnswersAs result answer
  pub is : IsEvent old loaders event answer new
      (with_changed loaders name (with_chunks space loader account.chunks))

-- A call of `Pool::take` for a loader's account, by its clauses, which leaves the account so. No
-- level is past 12, the last.
pub record IsTakeCall (space : Space) (old : Ledger) (loaders : List (ℕ × LoaderView)) (name : ℕ) (loader : LoaderView)
    (wanted most words : ℕ) (result : Result Span Refusal) (account : AccountState) (new : Ledger) : Type 0 where
  pub there : IsThere old loaders name loader
  pub asks : MayTake wanted most words
  pub least : most ≤ highest_level
  pub took : Took old (account_in space loader) wanted most words result new
  pub added : IfOk result (λ span. Adds old.limits.policy wanted most words (account_in space loader) span account)
  pub unchanged : OnErr result (account ≡ account_in space loader)

-- It is a taking in that space.
abbrev pub TakesAreEvents : Type 0
TakesAreEvents =
    (space : Space) (old new : Ledger) (loaders : List (ℕ × LoaderView)) (name : ℕ) (loader : LoaderView)
    (wanted most words : ℕ) (result : Result Span Refusal) (account : AccountState)
    → IsTakeCall space old loaders name loader wanted most words result account new
    → IsAnswered space old loaders name loader (taking space name wanted most words) result account new

-- A call of `Pool::grow` for a loader's account, by its clauses, which leaves the account so.
pub record IsGrowCall (space : Space) (old : Ledger) (loaders : List (ℕ × LoaderView)) (name : ℕ) (loader : LoaderView)
    (start total : ℕ) (may_enlarge : Bool) (result : Result Span Refusal) (account : AccountState)
    (new : Ledger) : Type 0 where
  pub there : IsThere old loaders name loader
  pub grew : Grew old (account_in space loader) start total may_enlarge result new
  pub grown : IfOk result
      (λ span. Grows old.limits.policy start total may_enlarge (account_in space loader) span account)
  pub unchanged : OnErr result (account ≡ account_in space loader)

-- It is a growing in that space.
abbrev pub GrowsAreEvents : Type 0
GrowsAreEvents =
    (space : Space) (old new : Ledger) (loaders : List (ℕ × LoaderView)) (name : ℕ) (loader : LoaderView)
    (start total : ℕ) (may_enlarge : Bool) (result : Result Span Refusal) (account : AccountState)
    → IsGrowCall space old loaders name loader start total may_enlarge result account new
    → IsAnswered space old loaders name loader (growing space name start total may_enlarge) result account new

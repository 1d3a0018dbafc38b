-- What a step of the machine makes of a source of accounts and of the loaders over it, by the calls
-- that it makes, as the source states them (this project's choice).
use Rattle.std.specs.Prelude.{◌≡◌, ◌<◌, ℕ, ◌⊎◌, List, Some, None, Result, Ok, Err, OnErr}
use Rattle.ms_base.specs.declared.kind.Kind.{Kind}
use Rattle.ms_base.specs.declared.kind.Space.{Space}
use Rattle.ms_base.specs.declared.kind.Space.TheVariants.{NonClass, Class}
use Rattle.ms_base.specs.declared.span.Block.{Block}
use Rattle.ms_base.specs.declared.refusal.Refusal.{Refusal}
use Rattle.ms_base.specs.declared.refusal.Refusal.TheVariants.{NoLoader, LoaderExists, OutOfMemory}
use Rattle.ms_base.specs.declared.step.Step.{Step}
use Rattle.ms_base.specs.declared.step.Step.TheVariants.{New, Alloc, Calloc, Write, Read, Free, Unload, Purge}
use Rattle.ms_base.specs.declared.step.Reply.{Reply}
use Rattle.ms_base.specs.declared.step.Reply.TheVariants.{Ok as Done, At, Value, Refused}
use Rattle.ms_base.specs.Names.{named, with_new, with_changed, without}
use Rattle.ms_base.specs.State.{Limits, LoaderState}
use Rattle.ms_pool.specs.Account.{AccountState}
use Rattle.ms_pool.specs.Source.{LeavesRest, ServesBoth}
use Rattle.ms_arena.specs.Alloc.{TakeRelation, GrowRelation}
use Rattle.ms_loader.specs.Loader.{LoaderView, owner_in, account_in, new_loader, with_state, IsSoundView}
use Rattle.ms_loader.specs.Loader.{AllocatesBlock, HasWord, WritesWord, FreesBlock, LacksWord, LacksName}

-- What a source serves, counts and follows, and what its calls may answer and make of it.
pub record SourceCalls (S : Type 0) : Type 1 where
  pub serves : S → AccountState → Type 0
  pub opened : S → Space → ℕ
  pub limits : S → Limits
  pub grew : GrowRelation S
  pub took : TakeRelation S
  pub opened_both : S → Result (AccountState × AccountState) Refusal → S → Type 0
  pub closed_both : S → AccountState → AccountState → S → Type 0
  pub purged : S → ℕ → S → Type 0

-- The source serves both accounts of each loader, and counts some in each space where there is one.
pub record MayServe {S : Type 0} (serves : S → AccountState → Type 0) (opened : S → Space → ℕ) (source : S)
    (loaders : List (ℕ × LoaderView)) : Type 0 where
  pub served : (name : ℕ) (loader : LoaderView) → named loaders name ≡ Some loader → (space : Space)
      → serves source (account_in space loader)
  pub counted : (name : ℕ) (loader : LoaderView) → named loaders name ≡ Some loader → (space : Space)
      → 0 < opened source space

-- Both accounts of a loader are opened, and it stands under a name that none had.
pub record MakesLoader {S : Type 0} (calls : SourceCalls S) (old : List (ℕ × LoaderView)) (name : ℕ) (kind : Kind)
    (before : S) (new : List (ℕ × LoaderView)) (after : S) : Type 0 where
  pub accounts : AccountState × AccountState
  pub unused : named old name ≡ None
  pub opened : calls.opened_both before (Ok accounts) after
  pub added : new ≡ with_new old name (new_loader accounts.0 accounts.1 kind)
  pub sound : IsSoundView (new_loader accounts.0 accounts.1 kind)

-- Both accounts are opened, memory for the loader is wanting, and both are closed again.
pub record MakesInVain {S : Type 0} (calls : SourceCalls S) (old : List (ℕ × LoaderView)) (name : ℕ) (kind : Kind)
    (before after : S) : Type 0 where
  pub accounts : AccountState × AccountState
  pub middle : S
  pub unused : named old name ≡ None
  pub opened : calls.opened_both before (Ok accounts) middle
  pub both : ServesBoth calls.serves middle (account_in NonClass (new_loader accounts.0 accounts.1 kind))
      (account_in Class (new_loader accounts.0 accounts.1 kind))
  pub closed : calls.closed_both middle (account_in NonClass (new_loader accounts.0 accounts.1 kind))
      (account_in Class (new_loader accounts.0 accounts.1 kind)) after

-- Why no loader is made, in the order of the checks: the name is used; no account is opened; memory
-- is wanting.
abbrev pub MakesNone : {S : Type 0} → SourceCalls S → List (ℕ × LoaderView) → ℕ → Kind → S → Refusal → S → Type 0
MakesNone calls old name kind before refusal after =
    ((refusal ≡ LoaderExists) × ((loader : LoaderView) × (named old name ≡ Some loader)) × (after ≡ before))
    ⊎ ((named old name ≡ None) × calls.opened_both before (Err refusal) after)
    ⊎ ((refusal ≡ OutOfMemory) × MakesInVain calls old name kind before after)

-- A block is allocated for a loader in a space, or refused by the loader.
pub record AllocatesIn {S : Type 0} (calls : SourceCalls S) (space : Space) (old : List (ℕ × LoaderView))
    (name block words : ℕ) (before : S) (answer : Result Block Refusal) (new : List (ℕ × LoaderView))
    (after : S) : Type 0 where
  pub was : LoaderView
  pub is : LoaderView
  pub found : named old name ≡ Some was
  pub allocates : AllocatesBlock calls.grew calls.took (calls.limits before).policy space was block words before
      answer is after
  pub served : calls.serves after (account_in space is)
  pub rest : LeavesRest calls.serves calls.opened calls.limits (owner_in space was) before after
  pub sound : IsSoundView is
  pub changed : new ≡ with_changed old name is
  pub unchanged : OnErr answer (is ≡ was)

-- No loader has the name.
pub record FindsNone (old : List (ℕ × LoaderView)) (name : ℕ) (refusal : Refusal)
    (new : List (ℕ × LoaderView)) : Type 0 where
  pub refusal_is : refusal ≡ NoLoader
  pub none : named old name ≡ None
  pub same : new ≡ old

-- One loader changes its state so, and keeps its owners.
pub record ChangesOne (old : List (ℕ × LoaderView)) (name : ℕ) (is_so : LoaderState → LoaderState → Type 0)
    (new : List (ℕ × LoaderView)) : Type 0 where
  pub was : LoaderView
  pub is : LoaderView
  pub found : named old name ≡ Some was
  pub owners : is ≡ with_state was is.state
  pub sound : IsSoundView is
  pub so : is_so was.state is.state
  pub changed : new ≡ with_changed old name is

-- A loader says why not, or is read: nothing changes.
pub record LooksAt (old : List (ℕ × LoaderView)) (name : ℕ) (is_so : LoaderState → Type 0)
    (new : List (ℕ × LoaderView)) : Type 0 where
  pub loader : LoaderView
  pub found : named old name ≡ Some loader
  pub so : is_so loader.state
  pub same : new ≡ old

-- Both accounts of a loader are closed, and it is gone.
pub record ClosesLoader {S : Type 0} (calls : SourceCalls S) (old : List (ℕ × LoaderView)) (name : ℕ) (before : S)
    (new : List (ℕ × LoaderView)) (after : S) : Type 0 where
  pub loader : LoaderView
  pub found : named old name ≡ Some loader
  pub both : ServesBoth calls.serves before (account_in NonClass loader) (account_in Class loader)
  pub closed : calls.closed_both before (account_in NonClass loader) (account_in Class loader) after
  pub gone : new ≡ without old name

-- What an allocation answers: where the block starts, or why there is none.
abbrev pub AllocatesAt : {S : Type 0} → SourceCalls S → Space → List (ℕ × LoaderView) → ℕ → ℕ → ℕ → S → ℕ
    → List (ℕ × LoaderView) → S → Type 0
AllocatesAt calls space old name block words before start new after =
    (made : Block) × (start ≡ made.start)
    × AllocatesIn calls space old name block words before (Ok made) new after

abbrev pub AllocatesNone : {S : Type 0} → SourceCalls S → Space → List (ℕ × LoaderView) → ℕ → ℕ → ℕ → S → Refusal
    → List (ℕ × LoaderView) → S → Type 0
AllocatesNone calls space old name block words before refusal new after =
    (FindsNone old name refusal new × (after ≡ before))
    ⊎ AllocatesIn calls space old name block words before (Err refusal) new after

-- Why a loader's block isn't found, or its word isn't: no loader has the name, or the loader says
-- why.
abbrev pub IsLacking : List (ℕ × LoaderView) → ℕ → (LoaderState → Refusal → Type 0) → Refusal
    → List (ℕ × LoaderView) → Type 0
IsLacking old name why refusal new =
    FindsNone old name refusal new ⊎ LooksAt old name (λ loader. why loader refusal) new

-- What each step is answered, with the source and the loaders before and after: no other reply is
-- given.
abbrev pub AnswersNew : {S : Type 0} → SourceCalls S → List (ℕ × LoaderView) → ℕ → Kind → S → Reply
    → List (ℕ × LoaderView) → S → Type 0
AnswersNew calls old name kind before Done new after = MakesLoader calls old name kind before new after
AnswersNew calls old name kind before (Refused refusal) new after =
    MakesNone calls old name kind before refusal after × (new ≡ old)
AnswersNew calls old name kind before _ new after = ⊥

abbrev pub AnswersAlloc : {S : Type 0} → SourceCalls S → Space → List (ℕ × LoaderView) → ℕ → ℕ → ℕ → S → Reply
    → List (ℕ × LoaderView) → S → Type 0
AnswersAlloc calls space old name block words before (At start) new after =
    AllocatesAt calls space old name block words before start new after
AnswersAlloc calls space old name block words before (Refused refusal) new after =
    AllocatesNone calls space old name block words before refusal new after
AnswersAlloc calls space old name block words before _ new after = ⊥

abbrev pub AnswersWrite : List (ℕ × LoaderView) → ℕ → ℕ → ℕ → ℕ → Reply → List (ℕ × LoaderView) → Type 0
AnswersWrite old name block index value Done new = ChangesOne old name (λ was is. WritesWord was block index value is) new
AnswersWrite old name block index value (Refused refusal) new =
    IsLacking old name (λ loader why. LacksWord loader block index why) refusal new
AnswersWrite old name block index value _ new = ⊥

abbrev pub AnswersRead : List (ℕ × LoaderView) → ℕ → ℕ → ℕ → Reply → List (ℕ × LoaderView) → Type 0
AnswersRead old name block index (Value value) new = LooksAt old name (λ loader. HasWord loader block index value) new
AnswersRead old name block index (Refused refusal) new =
    IsLacking old name (λ loader why. LacksWord loader block index why) refusal new
AnswersRead old name block index _ new = ⊥

abbrev pub AnswersFree : List (ℕ × LoaderView) → ℕ → ℕ → Reply → List (ℕ × LoaderView) → Type 0
AnswersFree old name block Done new = ChangesOne old name (λ was is. FreesBlock was block is) new
AnswersFree old name block (Refused refusal) new =
    IsLacking old name (λ loader why. LacksName loader block why) refusal new
AnswersFree old name block _ new = ⊥

abbrev pub AnswersUnload : {S : Type 0} → SourceCalls S → List (ℕ × LoaderView) → ℕ → S → Reply
    → List (ℕ × LoaderView) → S → Type 0
AnswersUnload calls old name before Done new after = ClosesLoader calls old name before new after
AnswersUnload calls old name before (Refused refusal) new after =
    FindsNone old name refusal new × (after ≡ before)
AnswersUnload calls old name before _ new after = ⊥

-- A step with its reply, the loaders before, and the source and the loaders after.
abbrev pub Served : {S : Type 0} → SourceCalls S → List (ℕ × LoaderView) → Step → Reply → S
    → List (ℕ × LoaderView) → S → Type 0
Served calls old (New name kind) reply before new after = AnswersNew calls old name kind before reply new after
Served calls old (Alloc name block words) reply before new after =
    AnswersAlloc calls NonClass old name block words before reply new after
Served calls old (Calloc name block words) reply before new after =
    AnswersAlloc calls Class old name block words before reply new after
Served calls old (Write name block index value) reply before new after =
    AnswersWrite old name block index value reply new × (after ≡ before)
Served calls old (Read name block index) reply before new after =
    AnswersRead old name block index reply new × (after ≡ before)
Served calls old (Free name block) reply before new after = AnswersFree old name block reply new × (after ≡ before)
Served calls old (Unload name) reply before new after = AnswersUnload calls old name before reply new after
Served calls old Purge Done before new after = ((gone : ℕ) × calls.purged before gone after) × (new ≡ old)
Served calls old Purge _ before new after = ⊥

-- All that a source says of itself, as one.
abbrev pub calls_of : {S : Type 0} → (S → AccountState → Type 0) → (S → Space → ℕ) → (S → Limits) → GrowRelation S
    → TakeRelation S → (S → Result (AccountState × AccountState) Refusal → S → Type 0)
    → (S → AccountState → AccountState → S → Type 0) → (S → ℕ → S → Type 0) → SourceCalls S
calls_of serves opened limits grew took opened_both closed_both purged =
    record {
      serves = serves;
      opened = opened;
      limits = limits;
      grew = grew;
      took = took;
      opened_both = opened_both;
      closed_both = closed_both;
      purged = purged;
    }

-- What the parts of a system stand for together, and what holds of them.
use Rattle.std.specs.Prelude.{◌≡◌, ℕ, ⊤, ◌≤◌, ◌==◌, List, [], ◌∷◌, length, map, IsTrue}
use Rattle.std.specs.List.{All, flat_map, count_by}
use Rattle.std.specs.Map.{values_of}
use Rattle.ms_base.specs.declared.kind.Space.TheVariants.{NonClass, Class}
use Rattle.ms_base.specs.declared.step.Step.{Step}
use Rattle.ms_base.specs.declared.step.Step.TheVariants.{Alloc, Calloc, Read}
use Rattle.ms_base.specs.Names.{AreNamed}
use Rattle.ms_base.specs.Committed.{is_among}
use Rattle.ms_base.specs.State.{LoaderState, Machine}
use Rattle.ms_pool.specs.Account.{AccountState}
use Rattle.ms_pool.specs.Ledger.{Loan, Ledger, Serves, IsSoundLedger}
use Rattle.ms_loader.specs.Loader.{LoaderView, account_in, IsSoundView}

-- The states of loaders by name.
abbrev pub states_of : List (ℕ × LoaderView) → List (ℕ × LoaderState)
states_of loaders = map (λ (entry : ℕ × LoaderView). (entry.0, entry.1.state)) loaders

-- The accounts of loaders, two of each.
abbrev pub accounts_of : List (ℕ × LoaderView) → List AccountState
accounts_of loaders =
    flat_map (λ (loader : LoaderView). account_in NonClass loader ∷ account_in Class loader ∷ []) (values_of loaders)

abbrev pub owners_of : List (ℕ × LoaderView) → List ℕ
owners_of loaders = map (λ (account : AccountState). account.owner) (accounts_of loaders)

-- The machine that a pool and its loaders are.
abbrev pub machine_of : Ledger → List (ℕ × LoaderView) → Machine
machine_of ledger loaders = record {
  loaders = states_of loaders;
  slots = ledger.slots;
  committed = ledger.committed;
  class_committed = ledger.class_committed;
  given = ledger.given;
  limits = ledger.limits;
}

-- No number stands twice in the list.
abbrev pub AreDistinct : List ℕ → Type 0
AreDistinct numbers = (number : ℕ) → count_by (λ other. other == number) numbers ≤ 1

-- The pool serves the loaders' accounts and lends to no other: their owners differ, and as many
-- accounts are open in each space as there are loaders.
pub record AreServed (ledger : Ledger) (loaders : List (ℕ × LoaderView)) : Type 0 where
  pub served : All (Serves ledger) (accounts_of loaders)
  pub distinct : AreDistinct (owners_of loaders)
  pub no_other : All (λ (loan : Loan). IsTrue (is_among (owners_of loaders) loan.owner)) ledger.loans
  pub opened : ledger.opened ≡ length loaders
  pub class_opened : ledger.class_opened ≡ length loaders

-- What is true of a pool and its loaders.
pub record AreTogether (ledger : Ledger) (loaders : List (ℕ × LoaderView)) : Type 0 where
  pub ledger_sound : IsSoundLedger ledger
  pub loaders_sound : All IsSoundView (values_of loaders)
  pub names : AreNamed loaders
  pub served : AreServed ledger loaders

-- A step whose reply has no value.
abbrev pub HasNoValue : Step → Type 0
HasNoValue (Alloc name block words) = ⊥
HasNoValue (Calloc name block words) = ⊥
HasNoValue (Read name block index) = ⊥
HasNoValue _ = ⊤

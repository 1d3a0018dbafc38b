-- When a pool and loaders may be put together (this project's choice).
use Rattle.std.specs.Prelude.{ℕ, ◌+◌, ◌*◌, ◌≤◌, List, length, IsTrue}
use Rattle.std.specs.List.{All}
use Rattle.ms_base.specs.Committed.{is_among}
use Rattle.ms_pool.specs.Ledger.{Loan, Ledger, Serves}
use Rattle.ms_loader.specs.Loader.{LoaderView}
use Rattle.ms_loaders.specs.System.{accounts_of, owners_of, AreDistinct}

-- How many accounts a pool has open in both spaces, and how many the loaders have, two of each.
abbrev pub open_accounts : Ledger → ℕ
open_accounts ledger = ledger.opened + ledger.class_opened

abbrev pub accounts_in : List (ℕ × LoaderView) → ℕ
accounts_in loaders = 2 * length loaders

-- The pool serves the loaders' accounts, whose owners differ, and has at least as many open in each
-- space; where it has no more, no other owner holds a chunk.
pub record MaySettle (ledger : Ledger) (loaders : List (ℕ × LoaderView)) : Type 0 where
  pub served : All (Serves ledger) (accounts_of loaders)
  pub distinct : AreDistinct (owners_of loaders)
  pub opened : length loaders ≤ ledger.opened
  pub class_opened : length loaders ≤ ledger.class_opened
  pub no_other : open_accounts ledger ≤ accounts_in loaders
      → All (λ (loan : Loan). IsTrue (is_among (owners_of loaders) loan.owner)) ledger.loans

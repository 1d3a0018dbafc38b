-- The accounts that a loader gives back when it goes.
use Rattle.std.specs.Prelude.{◌≡◌, ℕ, List, Some}
use Rattle.ms_base.specs.declared.kind.Space.TheVariants.{NonClass, Class}
use Rattle.ms_base.specs.Names.{named}
use Rattle.ms_pool.specs.Account.{AccountState}
use Rattle.ms_loader.specs.Loader.{LoaderView, account_in}

-- They are its own, the class space's last.
pub record AreAccountsOf (loader : LoaderView) (back : AccountState × AccountState) : Type 0 where
  pub account : back.0 ≡ account_in NonClass loader
  pub class_account : back.1 ≡ account_in Class loader

-- They are those of a loader that has the name.
pub record AreAccountsAt (loaders : List (ℕ × LoaderView)) (name : ℕ) (back : AccountState × AccountState) : Type 0 where
  pub loader : LoaderView
  pub found : named loaders name ≡ Some loader
  pub own : AreAccountsOf loader back

-- A step over any source of accounts: for serving.rt.
use Rattle.std.proofs.Common.{◌≡◌, [], subst, sym}
use Rattle.ms_base.specs.declared.kind.Kind.{Kind}
use Rattle.ms_base.specs.declared.kind.Space.TheVariants.{NonClass, Class}
use Rattle.ms_pool.specs.Account.{AccountState}
use Rattle.ms_pool.specs.Source.{ServesBoth}
use Rattle.ms_loader.specs.Loader.{LoaderView, account_in, new_loader}

-- The accounts of a loader that was just made are those that it was made of.
pub both_of_new : {S : Type 0} (serves : S → AccountState → Type 0) (source : S)
    (accounts : AccountState × AccountState) (kind : Kind) → accounts.0.chunks ≡ [] → accounts.1.chunks ≡ []
    → ServesBoth serves source accounts.0 accounts.1
    → ServesBoth serves source (account_in NonClass (new_loader accounts.0 accounts.1 kind))
    (account_in Class (new_loader accounts.0 accounts.1 kind))
both_of_new serves source accounts kind empty class_empty both =
    subst (λ (a : AccountState). ServesBoth serves source a (account_in Class (new_loader accounts.0 accounts.1 kind)))
    first (subst (λ (a : AccountState). ServesBoth serves source accounts.0 a) second both)
  where
    first : accounts.0 ≡ account_in NonClass (new_loader accounts.0 accounts.1 kind)
    first = λ i. record { owner = accounts.0.owner; space = both.space i; chunks = empty i }

    second : accounts.1 ≡ account_in Class (new_loader accounts.0 accounts.1 kind)
    second = λ i. record { owner = accounts.1.owner; space = both.class_space i; chunks = class_empty i }

-- What is said of the accounts that a loader gives back is said of its own.
pub both_back : {S : Type 0} (serves : S → AccountState → Type 0) (source : S) (loader : LoaderView)
    (back : AccountState × AccountState) → back.0 ≡ account_in NonClass loader → back.1 ≡ account_in Class loader
    → ServesBoth serves source (account_in NonClass loader) (account_in Class loader)
    → ServesBoth serves source back.0 back.1
both_back serves source loader back first second both =
    subst (λ (a : AccountState). ServesBoth serves source a back.1) (sym first)
    (subst (λ (a : AccountState). ServesBoth serves source (account_in NonClass loader) a) (sym second) both)

pub closed_back : {S : Type 0} (closed : S → AccountState → AccountState → S → Type 0) (old new : S)
    (loader : LoaderView) (back : AccountState × AccountState)
    → back.0 ≡ account_in NonClass loader → back.1 ≡ account_in Class loader
    → closed old back.0 back.1 new → closed old (account_in NonClass loader) (account_in Class loader) new
closed_back closed old new loader back first second its =
    subst (λ (a : AccountState). closed old a (account_in Class loader) new) first
    (subst (λ (a : AccountState). closed old back.0 a new) second its)

-- Sums over the loaders of a share and over shares, and what is true of all. For `gather`.
use Rattle.std.proofs.Common.{◌≡◌, ℕ, ◌+◌, ◌≤◌, List, [], ◌∷◌, map, length, refl, arith}
use Rattle.std.specs.List.{AllByRecursion, sum_by}
use Rattle.std.proofs.lemmas.List.Sums.{sum_by-cons}
use Rattle.ms_base.specs.declared.kind.Space.TheVariants.{NonClass, Class}
use Rattle.ms_pool.specs.Account.{AccountState}
use Rattle.ms_loader.specs.Loader.{LoaderView, account_in}
use Rattle.ms_loaders.specs.System.{accounts_of, owners_of}
use Rattle.ms_shared.specs.SeatView.{SeatState}
use Rattle.ms_run.specs.declared.share.Share.{Share}
use Rattle.ms_run.specs.Joined.{seat_of}
use Rattle.ms_run.proofs.sharing.GatherLemmas.{Loaders}
use Rattle.ms_loaders.proofs.steps.ServedLemmas.{times, is_it}

-- Of loaders, how many accounts are an owner's; and what is true of both accounts of one.
abbrev pub owned : ℕ → ℕ × LoaderView → ℕ
owned owner entry = is_it owner entry.1.owner + is_it owner entry.1.class_owner

pub owned_sum : (owner : ℕ) (loaders : Loaders) → times owner (owners_of loaders) ≡ sum_by (owned owner) loaders
owned_sum owner [] = refl
owned_sum owner (e ∷ es) = omega (
  arith,
  sum_by-cons (is_it owner) e.1.owner (e.1.class_owner ∷ owners_of es),
  sum_by-cons (is_it owner) e.1.class_owner (owners_of es),
  sum_by-cons (owned owner) e es,
  owned_sum owner es,
)

abbrev pub OfBoth : (AccountState → Type 0) → ℕ × LoaderView → Type 0
OfBoth P entry = P (account_in NonClass entry.1) × P (account_in Class entry.1)

pub by_loader : (P : AccountState → Type 0) (loaders : Loaders) → AllByRecursion P (accounts_of loaders)
    → AllByRecursion (OfBoth P) loaders
by_loader P [] all = tt
by_loader P (e ∷ es) all = ((all.0, all.1.0), by_loader P es all.1.1)

pub by_account : (P : AccountState → Type 0) (loaders : Loaders) → AllByRecursion (OfBoth P) loaders
    → AllByRecursion P (accounts_of loaders)
by_account P [] all = tt
by_account P (e ∷ es) all = (all.0.0, (all.0.1, by_account P es all.1))

pub one_each : ℕ × LoaderView → ℕ
one_each entry = 1

pub ones : (loaders : Loaders) → sum_by one_each loaders ≡ length loaders
unfolding one_each
ones [] = refl
ones (e ∷ es) = omega (arith, sum_by-cons one_each e es, ones es)

-- Sums over shares.
module _ (f g : Share → ℕ) where
  pub sums_le : (shares : List Share) → AllByRecursion (λ (share : Share). f share ≤ g share) shares
      → sum_by f shares ≤ sum_by g shares
  sums_le [] all = omega arith
  sums_le (share ∷ shares) all =
      omega (arith, all.0, sums_le shares all.1, sum_by-cons f share shares, sum_by-cons g share shares)

  pub sums_same : (shares : List Share) → AllByRecursion (λ (share : Share). f share ≡ g share) shares
      → sum_by f shares ≡ sum_by g shares
  sums_same [] all = refl
  sums_same (share ∷ shares) all =
      omega (arith, all.0, sums_same shares all.1, sum_by-cons f share shares, sum_by-cons g share shares)

pub seats_sum : (f : SeatState → ℕ) (shares : List Share)
    → sum_by f (map seat_of shares) ≡ sum_by (λ (share : Share). f share.seat) shares
seats_sum f [] = refl
seats_sum f (share ∷ shares) =
    omega (
      arith,
      seats_sum f shares,
      sum_by-cons f share.seat (map seat_of shares),
      sum_by-cons (λ (s : Share). f s.seat) share shares,
    )

pub all_seats : (P : SeatState → Type 0) (shares : List Share) → AllByRecursion P (map seat_of shares)
    → AllByRecursion (λ (share : Share). P share.seat) shares
all_seats P [] all = tt
all_seats P (share ∷ shares) all = (all.0, all_seats P shares all.1)

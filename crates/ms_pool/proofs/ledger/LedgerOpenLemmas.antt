-- Opening accounts: the new account has nothing, and all others are served still; so it is where a
-- tally is raised.
use Rattle.std.proofs.Common.{◌≡◌, ◌≤◌, ◌<◌, ◌+◌, ℕ, Bool, true, false, cond, List, [], ◌∷◌, map, refl, sym, subst}
use Rattle.std.proofs.Common.{arith}
use Rattle.std.specs.Prelude.{◌==◌}
use Rattle.std.specs.List.{AllByRecursion, filter}
use Rattle.std.specs.List.Sorted.{IsPermutation}
use Rattle.std.proofs.lemmas.Bool.{eqb-true}
use Rattle.std.proofs.lemmas.List.Elements.{recursion_from_All}
use Rattle.std.proofs.lemmas.List.Sorted.{IsPermutation-refl}
use Rattle.ms_base.specs.declared.kind.Space.{Space}
use Rattle.ms_base.specs.declared.kind.Space.TheVariants.{NonClass, Class}
use Rattle.ms_base.specs.declared.span.Chunk.{Chunk}
use Rattle.ms_pool.specs.Account.{AccountState}
use Rattle.ms_pool.specs.Tallies.{Tallies}
use Rattle.ms_pool.specs.Ledger.{Loan, Ledger, IsSoundLedger, Serves, chunks_of, is_owned_by, with_opened}
use Rattle.ms_pool.specs.Calls.{new_account, tallied}
use Rattle.ms_pool.proofs.ledger.LoanLemmas.{owned_by}

-- A number that was not given out owns nothing.
none_owned : (given owner : ℕ) (loans : List Loan) → given < owner
    → AllByRecursion (λ (loan : Loan). (1 ≤ loan.owner) × (loan.owner ≤ given)) loans → owned_by owner loans ≡ []
none_owned given owner [] above owners = refl
none_owned given owner (loan ∷ loans) above owners =
    go (loan.owner == owner) refl (none_owned given owner loans above owners.1)
  where
    go : (b : Bool) → (loan.owner == owner) ≡ b → owned_by owner loans ≡ []
        → map (λ (one : Loan). one.chunk)
        (cond b (loan ∷ filter (is_owned_by owner) loans) (filter (is_owned_by owner) loans)) ≡ []
    go true e none = let same = eqb-true loan.owner owner e in absurd (omega (arith, same, owners.0.1, above))
    go false e none = none

pub not_given_owns_nothing : (ledger : Ledger) (owner : ℕ) → IsSoundLedger ledger → ledger.given < owner
    → chunks_of ledger owner ≡ []
not_given_owns_nothing ledger owner sound above =
    none_owned ledger.given owner ledger.loans above
    (recursion_from_All (λ (loan : Loan). (1 ≤ loan.owner) × (loan.owner ≤ ledger.given)) ledger.loans sound.owners)

-- One account more.
pub opened_has_nothing : (old : Ledger) (space : Space) → IsSoundLedger old
    → Serves (with_opened old space) (new_account (old.given + 1) space)
opened_has_nothing old space sound = record {
  some = omega arith;
  given = omega arith;
  chunks = subst (λ (l : List Chunk). IsPermutation l [])
      (sym (not_given_owns_nothing old (old.given + 1) sound (omega arith))) (IsPermutation-refl []);
}

pub opened_serves : (old : Ledger) (space : Space) (account : AccountState) → Serves old account
    → Serves (with_opened old space) account
opened_serves old space account served =
    record { some = served.some; given = omega (arith, served.given); chunks = served.chunks }

-- One in each space.
abbrev pub with_both_opened : Ledger → Ledger
with_both_opened old = with_opened (with_opened old NonClass) Class

pub both_opened_have_nothing : (old : Ledger) → IsSoundLedger old
    → Serves (with_both_opened old) (new_account (old.given + 1) NonClass)
    × Serves (with_both_opened old) (new_account (old.given + 2) Class)
both_opened_have_nothing old sound = (
  opened_serves (with_opened old NonClass) Class (new_account (old.given + 1) NonClass)
      (opened_has_nothing old NonClass sound),
  record {
    some = omega arith;
    given = omega arith;
    chunks = subst (λ (l : List Chunk). IsPermutation l [])
        (sym (not_given_owns_nothing old (old.given + 2) sound (omega arith))) (IsPermutation-refl []);
  },
)

pub both_opened_serves : (old : Ledger) (account : AccountState) → Serves old account
    → Serves (with_both_opened old) account
both_opened_serves old account served =
    opened_serves (with_opened old NonClass) Class account (opened_serves old NonClass account served)

-- A tally that is raised.
pub tallied_serves : (old : Ledger) (tallies : Tallies) (account : AccountState) → Serves old account
    → Serves (tallied old tallies) account
tallied_serves old tallies account served = record { some = served.some; given = served.given; chunks = served.chunks }

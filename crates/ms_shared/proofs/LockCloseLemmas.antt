-- Both accounts of a loader closed over the lock. For `close_both`.
use Rattle.std.proofs.Common.{◌≡◌, ◌<◌, refl, sym, subst, arith}
use Rattle.ms_base.specs.declared.kind.Space.{Space}
use Rattle.ms_base.specs.declared.kind.Space.TheVariants.{NonClass, Class}
use Rattle.ms_pool.specs.Account.{AccountState}
use Rattle.ms_pool.specs.Ledger.{Ledger, IsSoundLedger, Serves}
use Rattle.ms_pool.specs.Source.{ServesBoth}
use Rattle.ms_pool.specs.Calls.{ClosedBoth, new_account}
use Rattle.ms_pool.proofs.ledger.LedgerCloseLemmas.{both_closed_have_nothing}
use Rattle.ms_pool.proofs.ledger.ClosedLemmas.{ClosesBothWell, both_closed_well}
use Rattle.ms_shared.specs.declared.lock_rule.SeatView.{SeatView}
use Rattle.ms_shared.specs.SeatView.{SeatState, ServesBy, IsKnown, opened_by}
use Rattle.ms_shared.proofs.LockCallLemmas.{IsCall, served_by_pool, serves_then}

pub closes_both : (pool : Ledger) (view : SeatView) (account class_account : AccountState) (later : Ledger)
    → IsSoundLedger pool → IsKnown pool view
    → ((space : Space) → 0 < opened_by view space) → ClosedBoth pool account class_account later
    → ClosesBothWell pool account class_account later
closes_both pool view account class_account later sound known some closed =
    let one = some NonClass in let most = known.opened NonClass in let class_one = some Class in let class_most =
    known.opened Class in
    both_closed_well pool account class_account later sound (omega arith) (omega arith) closed

-- That a seat serves both is said of what it knows.
pub both_known : (seat : SeatState) (account class_account : AccountState)
    → ServesBoth (λ (one : SeatState). ServesBy one.knows) seat account class_account
    → ServesBoth ServesBy seat.knows account class_account
both_known seat account class_account both = record {
  served = both.served;
  class_served = both.class_served;
  space = both.space;
  class_space = both.class_space;
}

-- Accounts of a loader that the seat serves are served by the pool that it finds.
pub both_served_by_pool : (pool : Ledger) (view : SeatView) (account class_account : AccountState) → IsKnown pool view
    → ServesBoth ServesBy view account class_account → ServesBoth Serves pool account class_account
both_served_by_pool pool view account class_account known both = record {
  served = served_by_pool pool view account known both.served;
  class_served = served_by_pool pool view class_account known both.class_served;
  space = both.space;
  class_space = both.class_space;
}

module _ (old new : SeatState) (before later : Ledger) (call : IsCall old new before later)
    (account class_account : AccountState) where
  none_then : (closed : AccountState) (space : Space) → ServesBy old.knows closed → closed.space ≡ space
      → Serves later (new_account closed.owner closed.space)
      → ServesBy new.knows (new_account closed.owner space)
  none_then closed space served is none =
      serves_then old new before later call closed (new_account closed.owner space) served refl
      (subst (λ (s : Space). Serves later (new_account closed.owner s)) is none)

  -- The closed accounts have nothing.
  pub both_have_nothing : ServesBoth ServesBy old.knows account class_account
      → ClosedBoth before account class_account later
      → ServesBy new.knows (new_account account.owner NonClass)
      × ServesBy new.knows (new_account class_account.owner Class)
  both_have_nothing both closed =
      let pool = both_served_by_pool before old.knows account class_account call.known both in
      let none = both_closed_have_nothing before account class_account pool.served pool.class_served in (
        none_then account NonClass both.served both.space
            (subst (λ (l : Ledger). Serves l (new_account account.owner account.space)) (sym closed) none.0),
        none_then class_account Class both.class_served both.class_space
            (subst (λ (l : Ledger). Serves l (new_account class_account.owner class_account.space))
            (sym closed) none.1),
      )

-- Accounts opened over the lock: the seat serves them and counts them. For `open` and `open_both`.
use Rattle.std.proofs.Common.{◌≡◌, ◌≢◌, ℕ, zero, suc, ◌+◌, ◌-◌, ◌<◌, ◌≤◌, inl, inr, refl, sym, ap, ◌∙◌, arith}
use Rattle.std.specs.Prelude.{Result, Ok, Err, IfOk, MatchResult}
use native.Mathlib.Decide.{ℕ_discrete}
use mathlib.Core.Logic.{dite}
use Rattle.ms_base.specs.declared.kind.Space.{Space}
use Rattle.ms_base.specs.declared.kind.Space.TheVariants.{NonClass, Class}
use Rattle.ms_base.specs.declared.refusal.Refusal.{Refusal}
use Rattle.ms_pool.specs.Account.{AccountState}
use Rattle.ms_pool.specs.Ledger.{Ledger, Serves, chunks_of, opened_in, with_opened}
use Rattle.ms_pool.specs.Calls.{Opened, OpenedBoth, new_account}
use Rattle.ms_pool.specs.Source.{ServesBoth}
use Rattle.ms_pool.proofs.ledger.ClosedLemmas.{opened_leaves_served, new_account_is_served, both_opened_leaves_served}
use Rattle.ms_pool.proofs.ledger.ClosedLemmas.{new_accounts_are_served}
use Rattle.ms_shared.specs.Entries.{Has, fresh}
use Rattle.ms_shared.specs.SeatView.{SeatState, ServesBy, opened_by}
use Rattle.ms_shared.proofs.LockCallLemmas.{IsCall, served_by_pool, serves_then, serves_new, counts_then}

-- Each number that was given out since then stands among the fresh ones.
pub has_fresh : (pool : Ledger) (first n owner : ℕ) → first < owner → owner ≤ first + n
    → Has (fresh pool first n) owner (chunks_of pool owner)
has_fresh pool first zero owner low up = absurd (omega arith)
has_fresh pool first (suc n) owner low up =
    dite (ℕ_discrete (first + suc n) owner) (λ is. inl (ap (λ (k : ℕ). (k, chunks_of pool k)) is))
    (λ differs. inr (has_fresh pool first n owner low (let apart : first + suc n ≢ owner = differs in omega arith)))

module _ (old new : SeatState) (before later : Ledger) (call : IsCall old new before later) where
  pub serves_given : (account : AccountState) → before.given < account.owner → account.owner ≤ later.given
      → Serves later account → ServesBy new.knows account
  serves_given account low up its =
      serves_new old new before later call account
      (has_fresh later before.given (later.given - before.given) account.owner low (omega arith)) its

  pub open_serves : (space : Space) (result : Result AccountState Refusal) → Opened before space result later
      → IfOk result (λ account. ServesBy new.knows account)
  open_serves space (Ok account) opened =
      let owner : account.owner ≡ before.given + 1 = ap (λ (a : AccountState). a.owner) opened.0 in
      let given : later.given ≡ before.given + 1 = ap (λ (l : Ledger). l.given) opened.1 in
      serves_given account (omega arith) (omega arith)
      (new_account_is_served before space account later call.sound opened)
  open_serves space (Err refusal) refused = tt

  pub open_others : (space : Space) (result : Result AccountState Refusal) → Opened before space result later
      → (other : AccountState) → ServesBy old.knows other → ServesBy new.knows other
  open_others space result opened other its =
      serves_then old new before later call other other its refl
      (opened_leaves_served before space result later other opened
      (served_by_pool before old.knows other call.known its))

  counted_in : (space one : Space) (n : ℕ) → opened_in later one ≡ opened_in before one + n
      → opened_by new.knows one ≡ opened_by old.knows one + n
  counted_in space one n more = let moved = counts_then old new before later call one in omega arith

  pub open_counts : (space : Space) (result : Result AccountState Refusal) → Opened before space result later
      → MatchResult result (λ account. opened_by new.knows space ≡ opened_by old.knows space + 1)
      (λ refusal. opened_by new.knows space ≡ opened_by old.knows space)
  open_counts space (Ok account) opened =
      counted_in space space 1 (ap (λ (l : Ledger). opened_in l space) opened.1 ∙ one_more_open space)
    where
      one_more_open : (space : Space) → opened_in (with_opened before space) space ≡ opened_in before space + 1
      one_more_open NonClass = refl
      one_more_open Class = refl
  open_counts space (Err refusal) refused =
      let same : opened_in later space ≡ opened_in before space = ap (λ (l : Ledger). opened_in l space) refused.2 in
      let moved = counts_then old new before later call space in omega arith

  pub open_elsewhere : (space : Space) (result : Result AccountState Refusal) → Opened before space result later
      → (other : Space) → other ≢ space → opened_by new.knows other ≡ opened_by old.knows other
  open_elsewhere space (Ok account) opened other differs =
      let same : opened_in later other ≡ opened_in before other =
      ap (λ (l : Ledger). opened_in l other) opened.1 ∙ none_more_open space other differs in
      let moved = counts_then old new before later call other in omega arith
    where
      none_more_open : (space other : Space) → other ≢ space
          → opened_in (with_opened before space) other ≡ opened_in before other
      none_more_open NonClass NonClass differs = absurd (differs refl)
      none_more_open NonClass Class differs = refl
      none_more_open Class NonClass differs = refl
      none_more_open Class Class differs = absurd (differs refl)
  open_elsewhere space (Err refusal) refused other differs =
      let same : opened_in later other ≡ opened_in before other = ap (λ (l : Ledger). opened_in l other) refused.2 in
      let moved = counts_then old new before later call other in omega arith

  -- Both accounts of a loader.
  pub open_both_serve : (result : Result (AccountState × AccountState) Refusal) → OpenedBoth before result later
      → IfOk result (λ accounts. ServesBy new.knows accounts.0)
  open_both_serve (Ok accounts) opened =
      let owner : accounts.0.owner ≡ before.given + 1 = ap (λ (a : AccountState × AccountState). a.0.owner) opened.0 in
      let given : later.given ≡ before.given + 1 + 1 = ap (λ (l : Ledger). l.given) opened.1 in
      serves_given accounts.0 (omega arith) (omega arith)
      (new_accounts_are_served before accounts later call.sound opened).0
  open_both_serve (Err refusal) refused = tt

  pub class_open_both_serve : (result : Result (AccountState × AccountState) Refusal) → OpenedBoth before result later
      → IfOk result (λ accounts. ServesBy new.knows accounts.1)
  class_open_both_serve (Ok accounts) opened =
      let owner : accounts.1.owner ≡ before.given + 2 = ap (λ (a : AccountState × AccountState). a.1.owner) opened.0 in
      let given : later.given ≡ before.given + 1 + 1 = ap (λ (l : Ledger). l.given) opened.1 in
      serves_given accounts.1 (omega arith) (omega arith)
      (new_accounts_are_served before accounts later call.sound opened).1
  class_open_both_serve (Err refusal) refused = tt

  pub both_serve : (result : Result (AccountState × AccountState) Refusal) → OpenedBoth before result later
      → IfOk result (λ accounts. ServesBoth (λ (seat : SeatState). ServesBy seat.knows) new accounts.0 accounts.1)
  both_serve (Ok accounts) opened = record {
    served = open_both_serve (Ok accounts) opened;
    class_served = class_open_both_serve (Ok accounts) opened;
    space = ap (λ (two : AccountState × AccountState). two.0.space) opened.0;
    class_space = ap (λ (two : AccountState × AccountState). two.1.space) opened.0;
  }
  both_serve (Err refusal) refused = tt

  pub open_both_others : (result : Result (AccountState × AccountState) Refusal) → OpenedBoth before result later
      → (other : AccountState) → ServesBy old.knows other → ServesBy new.knows other
  open_both_others result opened other its =
      serves_then old new before later call other other its refl
      (both_opened_leaves_served before result later other opened
      (served_by_pool before old.knows other call.known its))

  pub open_both_counts : (result : Result (AccountState × AccountState) Refusal) → OpenedBoth before result later
      → (space : Space)
      → MatchResult result (λ accounts. opened_by new.knows space ≡ opened_by old.knows space + 1)
      (λ refusal. opened_by new.knows space ≡ opened_by old.knows space)
  open_both_counts (Ok accounts) opened space =
      counted_in space space 1 (ap (λ (l : Ledger). opened_in l space) opened.1 ∙ one_more_each space)
    where
      one_more_each : (space : Space) → opened_in (with_opened (with_opened before NonClass) Class) space
          ≡ opened_in before space + 1
      one_more_each NonClass = refl
      one_more_each Class = refl
  open_both_counts (Err refusal) refused space =
      let same : opened_in later space ≡ opened_in before space = ap (λ (l : Ledger). opened_in l space) refused.2 in
      let moved = counts_then old new before later call space in omega arith

pub both_new_are : (old : Ledger) (result : Result (AccountState × AccountState) Refusal) (new : Ledger)
    → OpenedBoth old result new
    → IfOk result
    (λ accounts. accounts ≡ (new_account accounts.0.owner NonClass, new_account (accounts.0.owner + 1) Class))
both_new_are old (Ok accounts) new opened =
    let owner : accounts.0.owner ≡ old.given + 1 = ap (λ (a : AccountState × AccountState). a.0.owner) opened.0 in
    let next : old.given + 2 ≡ old.given + 1 + 1 = omega arith in
    opened.0 ∙ ap (λ (n : ℕ). both_from (old.given + 1) n) next ∙ ap (λ (n : ℕ). both_from n (n + 1)) (sym owner)
  where
    both_from : ℕ → ℕ → AccountState × AccountState
    both_from first second = (new_account first NonClass, new_account second Class)
both_new_are old (Err refusal) new refused = tt

pub new_is : (old : Ledger) (space : Space) (result : Result AccountState Refusal) (new : Ledger)
    → Opened old space result new
    → IfOk result (λ account. account ≡ new_account account.owner space)
new_is old space (Ok account) new opened =
    opened.0 ∙ ap (λ (n : ℕ). new_account n space) (sym (ap (λ (a : AccountState). a.owner) opened.0))
new_is old space (Err refusal) new refused = tt

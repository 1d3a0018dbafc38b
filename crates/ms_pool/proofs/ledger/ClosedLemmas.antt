-- Calls of open, close and purge, whatever they answer: all accounts but a closed one are served
-- still, and no other owner's chunks change.
use Rattle.std.proofs.Common.{◌≡◌, ◌≢◌, ◌<◌, ◌+◌, ℕ, [], refl, sym, ap, ◌∙◌, subst, arith}
use Rattle.std.specs.Prelude.{Result, Ok, Err, IfOk, IfErr, MatchResult}
use Rattle.ms_base.specs.declared.kind.Space.{Space}
use Rattle.ms_base.specs.declared.kind.Space.TheVariants.{NonClass, Class}
use Rattle.ms_base.specs.declared.refusal.Refusal.{Refusal}
use Rattle.ms_pool.specs.Account.{AccountState}
use Rattle.ms_pool.specs.Ledger.{Ledger, IsSoundLedger, Serves, chunks_of, opened_in, with_opened}
use Rattle.ms_pool.specs.Source.{ServesBoth, IsOpenRefusal}
use Rattle.ms_pool.specs.Calls.{Opened, OpenedBoth, Closed, ClosedBoth, Purged, new_account}
use Rattle.ms_pool.proofs.ledger.LedgerCloseLemmas.{closed_is_sound, closed_has_nothing, closed_serves_others}
use Rattle.ms_pool.proofs.ledger.LedgerCloseLemmas.{closed_counts, closed_counts_elsewhere, closed_keeps_others}
use Rattle.ms_pool.proofs.ledger.LedgerCloseLemmas.{both_closed_is_sound, both_closed_serves_others}
use Rattle.ms_pool.proofs.ledger.LedgerCloseLemmas.{both_closed_keeps_others}
use Rattle.ms_pool.proofs.ledger.LedgerOpenLemmas.{opened_has_nothing, opened_serves, both_opened_have_nothing}
use Rattle.ms_pool.proofs.ledger.LedgerOpenLemmas.{both_opened_serves}
use Rattle.ms_pool.proofs.ledger.PurgeLemmas.{purged_serves}
use Rattle.ms_pool.proofs.ledger.KeepsLemmas.{RaisesTally, serves_where_tallied}

-- Where no owner's chunks change.
abbrev pub KeepsAll : Ledger → Ledger → Type 0
KeepsAll old new = (owner : ℕ) → chunks_of new owner ≡ chunks_of old owner

all_where_tallied : (old new : Ledger) → RaisesTally old new → KeepsAll old new
all_where_tallied old new raises = subst (KeepsAll old) (sym raises.is) (λ owner. refl)

-- Open.
pub opened_keeps : (old : Ledger) (space : Space) (result : Result AccountState Refusal) (new : Ledger)
    → Opened old space result new
    → KeepsAll old new
opened_keeps old space (Ok account) new opened = subst (KeepsAll old) (sym opened.1) (λ owner. refl)
opened_keeps old space (Err refusal) new refused = all_where_tallied old new (record { tallies = _; is = refused.2 })

pub opened_leaves_served : (old : Ledger) (space : Space) (result : Result AccountState Refusal) (new : Ledger)
    (other : AccountState)
    → Opened old space result new → Serves old other → Serves new other
opened_leaves_served old space (Ok account) new other opened served =
    subst (λ (l : Ledger). Serves l other) (sym opened.1) (opened_serves old space other served)
opened_leaves_served old space (Err refusal) new other refused served =
    serves_where_tallied old new other (record { tallies = _; is = refused.2 }) served

pub new_account_is_served : (old : Ledger) (space : Space) (account : AccountState) (new : Ledger) → IsSoundLedger old
    → Opened old space (Ok account) new → Serves new account
new_account_is_served old space account new sound opened =
    subst (Serves new) (sym opened.0)
    (subst (λ (l : Ledger). Serves l (new_account (old.given + 1) space)) (sym opened.1)
    (opened_has_nothing old space sound))

pub opened_is_served : (old : Ledger) (space : Space) (result : Result AccountState Refusal) (new : Ledger)
    → IsSoundLedger old
    → Opened old space result new → IfOk result (λ account. Serves new account)
opened_is_served old space (Ok account) new sound opened = new_account_is_served old space account new sound opened
opened_is_served old space (Err refusal) new sound refused = tt

-- Open both.
pub both_opened_keeps : (old : Ledger) (result : Result (AccountState × AccountState) Refusal) (new : Ledger)
    → OpenedBoth old result new
    → KeepsAll old new
both_opened_keeps old (Ok accounts) new opened = subst (KeepsAll old) (sym opened.1) (λ owner. refl)
both_opened_keeps old (Err refusal) new refused = all_where_tallied old new (record { tallies = _; is = refused.2 })

pub both_opened_leaves_served : (old : Ledger) (result : Result (AccountState × AccountState) Refusal) (new : Ledger)
    (other : AccountState)
    → OpenedBoth old result new → Serves old other → Serves new other
both_opened_leaves_served old (Ok accounts) new other opened served =
    subst (λ (l : Ledger). Serves l other) (sym opened.1) (both_opened_serves old other served)
both_opened_leaves_served old (Err refusal) new other refused served =
    serves_where_tallied old new other (record { tallies = _; is = refused.2 }) served

pub new_accounts_are_served : (old : Ledger) (accounts : AccountState × AccountState) (new : Ledger) → IsSoundLedger old
    → OpenedBoth old (Ok accounts) new
    → Serves new accounts.0 × Serves new accounts.1
new_accounts_are_served old accounts new sound opened =
    subst (λ (two : AccountState × AccountState). Serves new two.0 × Serves new two.1) (sym opened.0)
    (subst (λ (l : Ledger). Serves l (new_account (old.given + 1) NonClass)
    × Serves l (new_account (old.given + 2) Class)) (sym opened.1) (both_opened_have_nothing old sound))

pub both_opened_are_served : (old : Ledger) (result : Result (AccountState × AccountState) Refusal) (new : Ledger)
    → IsSoundLedger old
    → OpenedBoth old result new
    → IfOk result (λ accounts. Serves new accounts.0) × IfOk result (λ accounts. Serves new accounts.1)
both_opened_are_served old (Ok accounts) new sound opened = new_accounts_are_served old accounts new sound opened
both_opened_are_served old (Err refusal) new sound refused = (tt, tt)

-- Both accounts of a loader are served, and each is empty and of its space.
pub both_opened_serve : (old : Ledger) (result : Result (AccountState × AccountState) Refusal) (new : Ledger)
    → OpenedBoth old result new
    → IfOk result (λ accounts. Serves new accounts.0) → IfOk result (λ accounts. Serves new accounts.1)
    → IfOk result (λ accounts. ServesBoth Serves new accounts.0 accounts.1)
both_opened_serve old (Ok accounts) new opened served class_served = record {
  served = served;
  class_served = class_served;
  space = ap (λ (two : AccountState × AccountState). two.0.space) opened.0;
  class_space = ap (λ (two : AccountState × AccountState). two.1.space) opened.0;
}
both_opened_serve old (Err refusal) new refused served class_served = tt

pub both_opened_are_empty : (old : Ledger) (result : Result (AccountState × AccountState) Refusal) (new : Ledger)
    → OpenedBoth old result new
    → IfOk result (λ accounts. accounts.0.chunks ≡ []) × IfOk result (λ accounts. accounts.1.chunks ≡ [])
both_opened_are_empty old (Ok accounts) new opened = (
  ap (λ (two : AccountState × AccountState). two.0.chunks) opened.0,
  ap (λ (two : AccountState × AccountState). two.1.chunks) opened.0,
)
both_opened_are_empty old (Err refusal) new refused = (tt, tt)

pub both_opened_counts : (old : Ledger) (result : Result (AccountState × AccountState) Refusal) (new : Ledger)
    → OpenedBoth old result new → (space : Space)
    → MatchResult result (λ accounts. opened_in new space ≡ opened_in old space + 1)
    (λ refusal. opened_in new space ≡ opened_in old space)
both_opened_counts old (Ok accounts) new opened space =
    ap (λ (l : Ledger). opened_in l space) opened.1 ∙ one_more_each space
  where
    one_more_each : (space : Space) → opened_in (with_opened (with_opened old NonClass) Class) space
        ≡ opened_in old space + 1
    one_more_each NonClass = refl
    one_more_each Class = refl
both_opened_counts old (Err refusal) new refused space = ap (λ (l : Ledger). opened_in l space) refused.2

pub both_opened_refusal : (old : Ledger) (result : Result (AccountState × AccountState) Refusal) (new : Ledger)
    → OpenedBoth old result new → IfErr result IsOpenRefusal
both_opened_refusal old (Ok accounts) new opened = tt
both_opened_refusal old (Err refusal) new refused = subst IsOpenRefusal (sym refused.0) tt

pub both_opened_limits : (old : Ledger) (result : Result (AccountState × AccountState) Refusal) (new : Ledger)
    → OpenedBoth old result new → new.limits ≡ old.limits
both_opened_limits old (Ok accounts) new opened = ap (λ (l : Ledger). l.limits) opened.1
both_opened_limits old (Err refusal) new refused = ap (λ (l : Ledger). l.limits) refused.2

-- Close: all that the call owes.
pub record ClosesWell (old : Ledger) (account : AccountState) (new : Ledger) : Type 0 where
  pub sound : IsSoundLedger new
  pub none : Serves new (new_account account.owner account.space)
  pub others : (other : AccountState) → other.owner ≢ account.owner → Serves old other → Serves new other
  pub chunks : (owner : ℕ) → owner ≢ account.owner → chunks_of new owner ≡ chunks_of old owner
  pub given : new.given ≡ old.given
  pub limits : new.limits ≡ old.limits
  pub counted : opened_in new account.space + 1 ≡ opened_in old account.space
  pub elsewhere : (space : Space) → space ≢ account.space → opened_in new space ≡ opened_in old space

pub closed_well : (old : Ledger) (account : AccountState) (new : Ledger) → IsSoundLedger old → Serves old account
    → 0 < opened_in old account.space → Closed old account new
    → ClosesWell old account new
closed_well old account new sound served some closed = subst (ClosesWell old account) (sym closed) (record {
  sound = closed_is_sound old account sound;
  none = closed_has_nothing old account served;
  others = λ other differs its. closed_serves_others old account other differs its;
  chunks = λ owner differs. closed_keeps_others old account owner differs;
  given = refl;
  limits = refl;
  counted = closed_counts old account some;
  elsewhere = λ space differs. closed_counts_elsewhere old account space differs;
})

-- Close both.
pub record ClosesBothWell (old : Ledger) (account class_account : AccountState) (new : Ledger) : Type 0 where
  pub sound : IsSoundLedger new
  pub others : (other : AccountState) → other.owner ≢ account.owner → other.owner ≢ class_account.owner
      → Serves old other → Serves new other
  pub chunks : (owner : ℕ) → owner ≢ account.owner → owner ≢ class_account.owner
      → chunks_of new owner ≡ chunks_of old owner
  pub given : new.given ≡ old.given
  pub limits : new.limits ≡ old.limits
  pub counted : new.opened + 1 ≡ old.opened
  pub class_counted : new.class_opened + 1 ≡ old.class_opened

pub both_closed_well : (old : Ledger) (account class_account : AccountState) (new : Ledger) → IsSoundLedger old
    → 0 < old.opened
    → 0 < old.class_opened
    → ClosedBoth old account class_account new → ClosesBothWell old account class_account new
both_closed_well old account class_account new sound some class_some closed =
    subst (ClosesBothWell old account class_account) (sym closed) (record {
      sound = both_closed_is_sound old account class_account sound;
      others = λ other differs too its. both_closed_serves_others old account class_account other differs too its;
      chunks = λ owner differs too. both_closed_keeps_others old account class_account owner differs too;
      given = refl;
      limits = refl;
      counted = omega arith;
      class_counted = omega arith;
    })

pub both_counted : (old : Ledger) (account class_account : AccountState) (new : Ledger)
    → ClosesBothWell old account class_account new
    → (space : Space) → opened_in new space + 1 ≡ opened_in old space
both_counted old account class_account new well NonClass = well.counted
both_counted old account class_account new well Class = well.class_counted

-- Purge.
pub purged_keeps : (old : Ledger) (gone : ℕ) (new : Ledger) → Purged old gone new → KeepsAll old new
purged_keeps old gone new purged = subst (KeepsAll old) (sym purged.1) (λ owner. refl)

pub purged_leaves_served : (old : Ledger) (gone : ℕ) (new : Ledger) (account : AccountState) → Purged old gone new
    → Serves old account
    → Serves new account
purged_leaves_served old gone new account purged served =
    subst (λ (l : Ledger). Serves l account) (sym purged.1) (purged_serves old account served)

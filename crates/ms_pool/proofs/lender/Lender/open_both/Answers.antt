use Rattle.std.proofs.Common.{◌≡◌, ◌+◌, ℕ, ap, ap₂, ◌∙◌, arith}
use Rattle.ms_base.specs.declared.kind.Space.TheVariants.{Class}
use Rattle.ms_pool.specs.Account.{AccountState}
use Rattle.ms_pool.specs.Calls.{new_account}
use Rattle.ms_pool.specs.Ledger.{Ledger, with_opened}
use Rattle.ms_pool.proofs.lender.Lender.open_both.Goals as goal

pub returns-clause-opened : goal.returns-clause-opened
returns-clause-opened c =
    let next : c.next_account-account.new.self.given ≡ c.args.self.now.given + 1 =
    ap (λ (ledger : Ledger). ledger.given) c.next_account-account.ensures.opened in (
      ap₂ (λ (a b : AccountState). (a, b)) c.next_account-account.ensures.account
          (c.next_account-class_account.ensures.account ∙ ap (λ (n : ℕ). new_account n Class) (omega (arith, next))),
      c.next_account-class_account.ensures.opened
          ∙ ap (λ (ledger : Ledger). with_opened ledger Class) c.next_account-account.ensures.opened,
    )

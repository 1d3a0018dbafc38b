use Rattle.std.proofs.Common.{ap, ◌∙◌}
use Rattle.ms_base.specs.Totals.{pool_sums}
use Rattle.ms_pool.specs.Account.{AccountState}
use Rattle.ms_pool.specs.Ledger.{Ledger, opened_in, state_in}
use Rattle.ms_pool.proofs.pool.Pool.totals.Goals as goal

pub returns-clause-sums : goal.returns-clause-sums
returns-clause-sums c =
    (rw c.deref.ensures at c.totals.ensures)
    ∙ ap (λ (ledger : Ledger). pool_sums (state_in c.account.inside.space ledger) (opened_in ledger c.account.inside.space))
    c.self.view_is
    ∙ ap (λ (account : AccountState). pool_sums (state_in account.space c.args.self.now) (opened_in c.args.self.now account.space))
    c.account.view_is

pub returns-clause-sound : goal.returns-clause-sound
returns-clause-sound c = rw (← c.self.view_is) c.self.invariant.kept.sound

use Rattle.std.proofs.Common.{ap, subst, ◌∙◌}
use Rattle.ms_base.specs.Totals.{pool_sums}
use Rattle.ms_pool.specs.Ledger.{Ledger, opened_in, state_in}
use Rattle.ms_pool.specs.Tallies.{AreTallies}
use Rattle.ms_pool.proofs.pool.Pool.all_totals.Goals as goal

pub returns-clause-sums : goal.returns-clause-sums
returns-clause-sums c =
    (rw c.deref-2.ensures at c.totals.ensures)
    ∙ ap (λ (ledger : Ledger). pool_sums (state_in c.args.space ledger) (opened_in ledger c.args.space))
    c.self.view_is

pub returns-clause-tallies : goal.returns-clause-tallies
returns-clause-tallies c = subst (λ (ledger : Ledger). AreTallies ledger.tallies) c.self.view_is
    (rw c.deref.ensures at c.read_tallies.ensures)

use Rattle.std.proofs.Common.{sym, subst}
use Rattle.ms_pool.specs.Calls.{new_account}
use Rattle.ms_pool.specs.Ledger.{Ledger, Serves}
use Rattle.ms_pool.proofs.ledger.LedgerCloseLemmas.{closed_has_nothing, closed_serves_others}
use Rattle.ms_pool.proofs.pool.PoolChunkSource.close.Goals as goal

pub returns-clause-none : goal.returns-clause-none
returns-clause-none c =
    subst (λ (l : Ledger). Serves l (new_account c.args.account.owner c.args.account.space)) (sym c.close.ensures.closed)
    (closed_has_nothing c.args.self.now c.args.account c.requires.served)

pub returns-clause-others : goal.returns-clause-others
returns-clause-others c = λ other differs served.
    subst (λ (l : Ledger). Serves l other) (sym c.close.ensures.closed)
    (closed_serves_others c.args.self.now c.args.account other differs served)

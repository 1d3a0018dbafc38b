use Rattle.std.proofs.Common.{ap}
use Rattle.ms_pool.specs.Ledger.{Ledger, opened_in}
use Rattle.ms_pool.proofs.ledger.ClosedLemmas.{purged_leaves_served}
use Rattle.ms_pool.proofs.pool.PoolAccountSource.purge.Goals as goal

pub returns : goal.returns
returns c = record {
  served = λ account its. purged_leaves_served c.args.self.now c.purge.result c.purge.new.self account c.purge.ensures.purged
      its;
  counted = ap (λ (l : Ledger). opened_in l) c.purge.ensures.purged.1;
  limits = ap (λ (l : Ledger). l.limits) c.purge.ensures.purged.1;
  purged = c.purge.ensures.purged;
}

use Rattle.ms_pool.proofs.ledger.ClosedLemmas.{both_opened_serve, both_opened_are_empty, both_opened_counts}
use Rattle.ms_pool.proofs.ledger.ClosedLemmas.{both_opened_leaves_served, both_opened_limits, both_opened_refusal}
use Rattle.ms_pool.proofs.pool.PoolAccountSource.open_both.Goals as goal

pub returns : goal.returns
returns c =
    let old = c.args.self.now in let result = c.open_both.result in let new = c.open_both.new.self in
    let opened = c.open_both.ensures.opened in record {
      served = both_opened_serve old result new opened c.open_both.ensures.served c.open_both.ensures.class_served;
      empty = (both_opened_are_empty old result new opened).0;
      class_empty = (both_opened_are_empty old result new opened).1;
      others = λ other its. both_opened_leaves_served old result new other opened its;
      counted = both_opened_counts old result new opened;
      refused = both_opened_refusal old result new opened;
      limits = both_opened_limits old result new opened;
      opened = opened;
    }

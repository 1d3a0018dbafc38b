use Rattle.ms_base.specs.declared.kind.Space.TheVariants.{NonClass, Class}
use Rattle.ms_pool.proofs.ledger.ClosedLemmas.{both_closed_well, both_counted}
use Rattle.ms_pool.proofs.pool.PoolAccountSource.close_both.Goals as goal

pub close_both-requires : goal.close_both-requires
close_both-requires c = record {
  both = c.requires.both;
  counted = c.requires.counted NonClass;
  class_counted = c.requires.counted Class;
}

pub returns : goal.returns
returns c =
    let old = c.args.self.now in let new = c.close_both.new.self in
    let well =
    both_closed_well old c.args.account c.args.class_account new c.close_both.ensures.before (c.requires.counted NonClass)
    (c.requires.counted Class) c.close_both.ensures.closed in record {
      others = well.others;
      counted = both_counted old c.args.account c.args.class_account new well;
      limits = well.limits;
      closed = c.close_both.ensures.closed;
    }

use Rattle.ms_page.proofs.LargestLemmas.{largest_more}
use Rattle.ms_page.proofs.largest.largest.Goals as goal

pub loop-holding-preserved : goal.loop-holding-preserved
loop-holding-preserved c =
    largest_more c.args.holdings.now c.loop-holding.holding-index _ c.loop-holding.largest.items c.rank.new.largest.items
    c.loop-holding-test.true c.loop-holding.invariant c.in_ok-rank.ensures

use Rattle.ms_c.proofs.totals.counts_in.Goals as goal

pub returns : goal.returns
returns c = λ i. record {
  granules = c.args.counts.granules;
  granule_limit = c.args.counts.granule_limit;
  granule_words = c.args.counts.granule_words;
  nodes = c.from.ensures i;
  node_limit = c.from-2.ensures i;
  class_nodes = c.from-3.ensures i;
}

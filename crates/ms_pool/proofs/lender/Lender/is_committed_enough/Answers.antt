use Rattle.ms_base.specs.Committed.{is_among, granules_meeting}
use Rattle.ms_base.specs.Policy.{granule_of}
use Rattle.ms_pool.proofs.searches.SearchLemmas.{none_missing}
use Rattle.ms_pool.proofs.lender.Lender.is_committed_enough.Goals as goal

pub returns : goal.returns
returns c =
    rw (
      c.missing_among.ensures,
      c.granules_meeting-first.ensures.first,
      c.granules_meeting-first.ensures.count,
      c.granule.ensures,
    )
    (none_missing (is_among c.args.self.now.nodes.granules)
    (granules_meeting (granule_of c.args.self.now.policy) c.args.start c.args.words))

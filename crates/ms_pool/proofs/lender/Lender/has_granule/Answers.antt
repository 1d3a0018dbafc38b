use Rattle.ms_pool.proofs.maps.CellLemmas.{granule_there}
use Rattle.ms_pool.proofs.lender.Lender.has_granule.Goals as goal

pub returns : goal.returns
returns c =
    rw (
      c.missing.ensures,
      c.granules_meeting-first.ensures.first,
      c.granules_meeting-first.ensures.count,
      c.granule.ensures,
    )
    (granule_there c.args.space c.args.self.now c.args.start c.requires.kept c.requires.inside)

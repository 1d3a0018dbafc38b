use Rattle.ms_pool.proofs.searches.LackLemmas.{lacks}
use Rattle.ms_pool.proofs.lender.Lender.missing.Goals as goal

pub returns : goal.returns
returns c =
    rw (
      c.missing_among.ensures,
      c.granules_meeting-first.ensures.first,
      c.granules_meeting-first.ensures.count,
      c.granule.ensures,
    )
    (lacks c.args.space c.args.self.now c.args.chunk.now c.requires.kept c.requires.some c.requires.inside)

use Rattle.std.proofs.Common.{arith}
use Rattle.ms_base.proofs.free.HalvesLemmas.{size_falls}
use Rattle.ms_pool.proofs.lender.Lender.near.Goals as goal

pub smaller-requires-clause-fits : goal.smaller-requires-clause-fits
smaller-requires-clause-fits c =
    omega (
      arith,
      c.requires.fits,
      size_falls c.new.result c.args.most
          (omega (arith, c.new.ensures, c.number.ensures.same, c.if-two_more-number.true)),
    )

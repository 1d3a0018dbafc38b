use Rattle.std.proofs.Common.{arith}
use Rattle.ms_buddy.proofs.bits.BitLemmas.{lowest_later_bit, no_later_bit}
use Rattle.ms_buddy.proofs.free_bits.lowest_bit.Goals as goal

pub returns-then-later-eq0-clause-none : goal.returns-then-later-eq0-clause-none
returns-then-later-eq0-clause-none c position from high =
    no_later_bit c.args.word c.args.from position c.if-later-eq0.true from

pub returns-clause-found : goal.returns-clause-found
returns-clause-found c =
    lowest_later_bit c.args.word c.args.from (omega (arith, c.if-later-eq0.false)) c.ranges.word.fits

-- What is appended is what the line has from its first digit on, up to the index.
use Rattle.std.proofs.Common.{arith}
use Rattle.ms_report.proofs.DoneLemmas.{done_is_ascii, done_text}
use Rattle.ms_report.proofs.done_line.DoneLine.push_up_to.Goals as goal

pub push_piece-requires-clause-ascii : goal.push_piece-requires-clause-ascii
push_piece-requires-clause-ascii c =
    done_is_ascii c.count_on.new.last c.count_on.new.from c.count_on.new.bytes c.count_on.ensures.line
    (omega (arith, c.count_on.ensures.number, c.ranges.number.fits))

pub returns : goal.returns
returns c =
    rw (done_text c.args.number c.count_on.new.last c.count_on.new.from c.args.end c.count_on.new.bytes
    c.count_on.ensures.line c.count_on.ensures.number c.requires.past c.requires.within) at c.push_piece.ensures

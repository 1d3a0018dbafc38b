-- A word has a bit exactly where the second row says so.
use Rattle.std.proofs.Common.{refl, arith}
use Rattle.ms_buddy.proofs.bits.BitLemmas.{changed, row_changed}
use Rattle.ms_buddy.proofs.free_bits.FreeBits.put.Goals as goal

pub returns-clause-bits : goal.returns-clause-bits
returns-clause-bits c other =
    changed c.args.self.now.words c.args.number other _ _ (omega (arith, c.requires)) c.with_bit-word.ensures.here
    c.with_bit-word.ensures.others

pub returns-clause-filled : goal.returns-clause-filled
returns-clause-filled c are =
    row_changed c.args.self.now.words c.args.self.now.filled _ _ _ _ (omega (arith, c.requires)) are refl
    (λ other. changed c.args.self.now.filled _ other _ _ (omega (arith, c.requires)) c.with_bit.ensures.here
    c.with_bit.ensures.others)

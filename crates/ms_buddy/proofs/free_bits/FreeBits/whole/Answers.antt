-- The bit of the root is set in words of zeros.
use Rattle.std.proofs.Common.{ℕ, ◌∙◌, ◌==◌, ap, cond}
use Rattle.ms_buddy.proofs.bits.BitLemmas.{no_bit, none_filled}
use Rattle.ms_buddy.proofs.free_bits.FreeBits.whole.Goals as goal

pub returns-clause-bits : goal.returns-clause-bits
returns-clause-bits c number = c.put.ensures.bits number ∙ ap (λ (bit : ℕ). cond (1 == number) 1 bit) (no_bit 128 number)

pub returns-clause-filled : goal.returns-clause-filled
returns-clause-filled c = c.put.ensures.filled (none_filled 128 2)

use Rattle.std.proofs.Common.{w64}
use Rattle.std.proofs.lemmas.Nat.Bits.{bit_at_clear_same}
use Rattle.ms_blocks.proofs.ClassBitLemmas.{bit_others}
use Rattle.ms_blocks.proofs.classes.noted_anew.Goals as goal

pub returns-then-is_empty-clause-here : goal.returns-then-is_empty-clause-here
returns-then-is_empty-clause-here c =
    rw c.if-is_empty.true (bit_at_clear_same w64 c.args.some c.args.class c.requires.within)

pub returns-then-is_empty-clause-others : goal.returns-then-is_empty-clause-others
returns-then-is_empty-clause-others c = λ other differ.
    bit_others c.args.some c.args.class other c.requires.within c.ranges.some.fits differ

use Rattle.std.proofs.Common.{◌+◌, ◌*◌, get_or, arith, bit_and, w64}
use Rattle.std.specs.Int.{trailing_zeros}
use Rattle.std.proofs.lemmas.Nat.{and_le_r}
use Rattle.ms_commit.proofs.LowestLemmas.{IsLowestIn, lowest_here, none_more}
use Rattle.ms_commit.proofs.mask.lowest_set.Goals as goal

-- The lowest position of the word that the loop has reached is the answer.
here : (c : goal.Then-bits-ne0) → IsLowestIn c.args.words.now c.args.first c.args.end
    (64 * c.loop-index.index + trailing_zeros w64
    (bit_and (get_or c.args.words.now c.loop-index.index 0) c.bits_between.result))
here c =
    lowest_here c.args.words.now c.args.first c.args.end c.loop-index.index c.bits_between.result c.bits_between.ensures
    (omega (arith, c.if-bits-ne0.true))
    (omega (
      arith,
      and_le_r (get_or c.args.words.now c.loop-index.index 0) c.bits_between.result,
      c.bits_between.type_inv,
    )) c.loop-index.invariant

pub returns-then-bits-ne0-clause-set : goal.returns-then-bits-ne0-clause-set
returns-then-bits-ne0-clause-set c = (here c).set

pub returns-then-bits-ne0-clause-from : goal.returns-then-bits-ne0-clause-from
returns-then-bits-ne0-clause-from c = (here c).from

pub returns-then-bits-ne0-clause-below : goal.returns-then-bits-ne0-clause-below
returns-then-bits-ne0-clause-below c = (here c).below

pub returns-then-bits-ne0-clause-lowest : goal.returns-then-bits-ne0-clause-lowest
returns-then-bits-ne0-clause-lowest c = (here c).lowest

pub loop-index-preserved : goal.loop-index-preserved
loop-index-preserved c = none_more c.args.words.now c.args.first c.args.end
    c.loop-index.index c.bits_between.result c.bits_between.ensures c.if-bits-ne0.false c.loop-index.invariant

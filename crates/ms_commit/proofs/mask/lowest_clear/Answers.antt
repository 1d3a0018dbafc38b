use Rattle.std.proofs.Common.{◌+◌, ◌*◌, sym, subst, arith}
use Rattle.ms_commit.specs.Mask.{IsLowestClear}
use Rattle.ms_commit.proofs.MaskLemmas.{full_more, lowest_in_word}
use Rattle.ms_commit.proofs.mask.lowest_clear.Goals as goal

pub returns-then-word-clause-lowest : goal.returns-then-word-clause-lowest
returns-then-word-clause-lowest c =
    subst (λ position. IsLowestClear c.args.words.now (64 * c.loop-index.index + position)) (sym c.trailing_ones.ensures)
    (lowest_in_word c.args.words.now c.loop-index.index (omega arith)
    (omega (arith, c.if-word.true, c.type_inv.words c.loop-index.index)) c.loop-index.invariant)

pub loop-index-preserved : goal.loop-index-preserved
loop-index-preserved c = full_more c.args.words.now c.loop-index.index c.if-word.false c.loop-index.invariant

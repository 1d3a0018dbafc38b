use Rattle.std.proofs.Common.{◌+◌, ◌∙◌, arith, subst, sym, w64}
use Rattle.std.specs.Int.{trailing_zeros}
use Rattle.ms_blocks.specs.Classes.{IsNextClass}
use Rattle.ms_blocks.proofs.ClassBitLemmas.{half, is_next, none_later}
use Rattle.ms_blocks.proofs.classes.next_class.Goals as goal

pub returns-then-later-eq0-clause-none : goal.returns-then-later-eq0-clause-none
returns-then-later-eq0-clause-none c = λ later from.
    none_later c.args.some (c.args.class + 1) later (sym (half c.args.some c.args.class) ∙ c.if-later-eq0.true)
    (omega (arith, from))

pub returns-clause-next : goal.returns-clause-next
returns-clause-next c =
    subst (λ later. IsNextClass c.args.some c.args.class (c.args.class + 1 + trailing_zeros w64 later))
    (sym (half c.args.some c.args.class))
    (is_next c.args.some c.args.class (omega (arith, half c.args.some c.args.class, c.if-later-eq0.false))
    c.ranges.some.fits)

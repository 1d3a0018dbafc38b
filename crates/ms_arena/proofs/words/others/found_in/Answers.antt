-- The last of what is left has the stretch, or it stands before it.
use Rattle.std.proofs.Common.{◌∙◌, arith, sym}
use Rattle.ms_arena.proofs.OthersLemmas.{found_last, passed_last}
use Rattle.ms_arena.proofs.words.others.found_in.Goals as goal

pub returns-then-from-stretch : goal.returns-then-from-stretch
returns-then-from-stretch c =
    found_last c.args.list.now c.loop-left.left c.args.stretch (record { stretch = 0; position = 0 }) c.loop-left-test.true
    c.loop-left.invariant.0 c.loop-left.invariant.1 (sym c.from.ensures ∙ c.if-from-stretch.true)

pub loop-left-preserved : goal.loop-left-preserved
loop-left-preserved c = (
  omega (arith, c.loop-left.invariant.0),
  passed_last c.args.list.now c.loop-left.left c.args.stretch (record { stretch = 0; position = 0 }) c.loop-left-test.true
      c.loop-left.invariant.0 c.loop-left.invariant.1 (λ same. c.if-from-stretch.false (c.from.ensures ∙ same)),
)

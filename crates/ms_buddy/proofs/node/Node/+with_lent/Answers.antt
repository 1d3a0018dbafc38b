-- The leaf is made in the half where it starts.
use Rattle.std.proofs.Common.{rules, arith}
use Rattle.ms_buddy.proofs.changes.CarveLemmas.{lower_may, upper_may}
use Rattle.ms_buddy.proofs.node.Node.+with_lent.Goals as goal

pub with_lent-requires : goal.with_lent-requires
with_lent-requires g t c κs within = (
  omega (arith, c.requires.is_part.0, c.requires.inside.low),
  (
    search rules,
    lower_may c.args.span _ _ _ _ c.requires (omega (arith, c.requires.inside.low)) c.half_of.ensures.size c.if-span-middle.true,
  ),
)

pub with_lent-requires-else-span-middle : goal.with_lent-requires-else-span-middle
with_lent-requires-else-span-middle g t c κs within = (
  omega (arith, c.requires.is_part.0, c.requires.inside.low),
  (
    search rules,
    upper_may c.args.span _ _ _ _ c.requires (omega (arith, c.requires.inside.low)) c.half_of.ensures.size (omega arith),
  ),
)

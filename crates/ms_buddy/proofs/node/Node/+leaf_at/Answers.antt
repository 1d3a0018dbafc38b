-- The leaf is in the half where the offset is.
use Rattle.std.proofs.Common.{rules, arith}
use Rattle.ms_buddy.proofs.TreeHalvesLemmas.{lower_part, upper_part, size_of-halves}
use Rattle.ms_buddy.specs.Boxes.{shape_of}
use Rattle.ms_buddy.proofs.boxes.BoxLemmas.{at_boxes, lower_leaf, upper_leaf}
use Rattle.ms_buddy.proofs.node.Node.+leaf_at.Goals as goal

pub leaf_at-requires : goal.leaf_at-requires
leaf_at-requires g t c κs within =
    let s = at_boxes _ c.args.start _ _ _ _ _ _ c.in-Split.is c.requires.tree c.half_of.ensures.size in
    (omega (arith, s.low), (search rules, (rw c.deref.ensures s.halves.low_tree, (lower_part _ _ c.requires.of_root s.low, (search rules, omega (arith, s.halves.size))))))

pub leaf_at-requires-else-offset-middle : goal.leaf_at-requires-else-offset-middle
leaf_at-requires-else-offset-middle g t c κs within =
    let s = at_boxes _ c.args.start _ _ _ _ _ _ c.in-Split.is c.requires.tree c.half_of.ensures.size in (
      omega (arith, s.low),
      (
        search rules,
        (
          rw c.deref-else-offset-middle.ensures s.halves.high_tree,
          (
            upper_part _ _ _ c.requires.of_root s.low (omega (arith, s.halves.size)),
            (omega arith, omega (arith, s.halves.size, size_of-halves c.args.level s.low)),
          ),
        ),
      ),
    )

pub returns-then-offset-middle-clause-leaf : goal.returns-then-offset-middle-clause-leaf
returns-then-offset-middle-clause-leaf g t c =
    let s = at_boxes _ c.args.start _ _ _ _ _ _ c.in-Split.is c.requires.tree c.half_of.ensures.size in
    rw (s.lent, s.free) (lower_leaf _ _ _ (shape_of c.in-Split.lower.value) (shape_of c.in-Split.upper.value) _ _ (rw c.deref.ensures at c.leaf_at.ensures.leaf))

pub returns-else-offset-middle-clause-leaf : goal.returns-else-offset-middle-clause-leaf
returns-else-offset-middle-clause-leaf g t c =
    let s = at_boxes _ c.args.start _ _ _ _ _ _ c.in-Split.is c.requires.tree c.half_of.ensures.size in
    rw (s.lent, s.free) (upper_leaf _ _ _ _ (shape_of c.in-Split.lower.value) (shape_of c.in-Split.upper.value) _ _ s.halves.low_tree s.halves.size (omega arith) (rw c.deref-else-offset-middle.ensures at c.leaf_at-else-offset-middle.ensures.leaf))

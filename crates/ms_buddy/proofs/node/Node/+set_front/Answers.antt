-- The leaf is in the half where it starts, and the other half stays.
use Rattle.std.proofs.Common.{rules, arith, ap, sym, ◌∙◌}
use Rattle.ms_buddy.specs.Leaves.{with_front}
use Rattle.ms_buddy.proofs.TreeHalvesLemmas.{lower_part, upper_part}
use Rattle.ms_buddy.specs.Boxes.{shape_of}
use Rattle.ms_buddy.proofs.boxes.BoxLemmas.{at_boxes}
use Rattle.ms_buddy.proofs.SplitLemmas.{lower_lent, upper_lent, front_acts, lower_changed, upper_changed}
use Rattle.ms_buddy.proofs.node.Node.+set_front.Goals as goal

pub set_front-requires : goal.set_front-requires
set_front-requires g t c κs within =
    let s = at_boxes _ c.args.start _ _ _ _ _ _ c.in-Split.is c.requires.tree c.half_of.ensures.size in
    let value = c.deref_mut.ensures.value in
    (omega (arith, s.low), (search rules, (rw value s.halves.low_tree, (lower_part _ _ c.requires.of_root s.low, (rw value (lower_lent _ _ _ _ _ _ s.halves c.if-span-middle.true (rw s.lent at c.requires.lent)), search rules)))))

pub set_front-requires-else-span-middle : goal.set_front-requires-else-span-middle
set_front-requires-else-span-middle g t c κs within =
    let s = at_boxes _ c.args.start _ _ _ _ _ _ c.in-Split.is c.requires.tree c.half_of.ensures.size in
    let value = c.deref_mut-else-span-middle.ensures.value in
    (omega (arith, s.low), (search rules, (rw value s.halves.high_tree, (upper_part _ _ _ c.requires.of_root s.low (omega (arith, s.halves.size)), (rw value (upper_lent _ _ _ _ _ _ s.halves (omega arith) (rw s.lent at c.requires.lent)), search rules)))))

pub returns-then-span-middle-clause-lent : goal.returns-then-span-middle-clause-lent
returns-then-span-middle-clause-lent g t c =
    let s = at_boxes _ c.args.start _ _ _ _ _ _ c.in-Split.is c.requires.tree c.half_of.ensures.size in
    lower_changed _ _ _ _ _ (shape_of c.set_front.new.self) _ _ (front_acts c.args.span c.args.front) s.halves c.if-span-middle.true (rw c.deref_mut.ensures.value at c.set_front.ensures.lent)
    ∙ ap (with_front c.args.span c.args.front) (sym s.lent)

pub returns-else-span-middle-clause-lent : goal.returns-else-span-middle-clause-lent
returns-else-span-middle-clause-lent g t c =
    let s = at_boxes _ c.args.start _ _ _ _ _ _ c.in-Split.is c.requires.tree c.half_of.ensures.size in
    upper_changed _ _ _ _ _ (shape_of c.set_front-else-span-middle.new.self) _ _ (front_acts c.args.span c.args.front) s.halves (omega arith)
    (rw c.deref_mut-else-span-middle.ensures.value at c.set_front-else-span-middle.ensures.lent)
    ∙ ap (with_front c.args.span c.args.front) (sym s.lent)

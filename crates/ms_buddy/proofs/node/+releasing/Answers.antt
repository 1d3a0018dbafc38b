-- The leaf goes from the half where it starts, and the other half stays; two free halves merge.
use Rattle.std.proofs.Common.{◌≡◌, rules, arith, Some}
use Rattle.std.specs.List.{find}
use Rattle.ms_buddy.specs.Boxes.{shape_of}
use Rattle.ms_buddy.specs.Leaves.{covers}
use Rattle.ms_buddy.specs.Tree.{free_in_halves}
use Rattle.ms_buddy.proofs.TreeHalvesLemmas.{lower_part, upper_part}
use Rattle.ms_buddy.proofs.SplitLemmas.{AtHalves, lower_lent, upper_lent, without_acts, lower_changed, upper_changed, lower_found, upper_found}
use Rattle.ms_buddy.proofs.boxes.BoxLemmas.{merged_whole, passed_on}
use Rattle.ms_buddy.proofs.node.+releasing.Goals as goal

pub release_in_half-release-freed-requires : goal.release_in_half-release-freed-requires
release_in_half-release-freed-requires g t c κs within =
    let halves : AtHalves c.args.level c.args.start c.half_of.result (shape_of c.args.lower.now) (shape_of c.args.upper.now) = record { low_tree = c.requires.halves.trees.0; high_tree = c.requires.halves.trees.1; size = c.half_of.ensures.size } in
    (omega arith, (search rules, (search rules, (lower_part _ _ c.requires.halves.of_root c.requires.halves.low, lower_lent _ _ _ _ _ _ halves c.if-span-middle.true c.requires.lent))))

pub release_in_half-release-freed-requires-else-span-middle : goal.release_in_half-release-freed-requires-else-span-middle
release_in_half-release-freed-requires-else-span-middle g t c κs within =
    let halves : AtHalves c.args.level c.args.start c.half_of.result (shape_of c.args.lower.now) (shape_of c.args.upper.now) = record { low_tree = c.requires.halves.trees.0; high_tree = c.requires.halves.trees.1; size = c.half_of.ensures.size } in
    (omega arith, (search rules, (search rules, (upper_part _ _ _ c.requires.halves.of_root c.requires.halves.low (omega (arith, halves.size)), upper_lent _ _ _ _ _ _ halves (omega arith) c.requires.lent))))

pub release_in_half-returns-then-span-middle-clause-lent : goal.release_in_half-returns-then-span-middle-clause-lent
release_in_half-returns-then-span-middle-clause-lent g t c =
    let halves : AtHalves c.args.level c.args.start c.half_of.result (shape_of c.args.lower.now) (shape_of c.args.upper.now) = record { low_tree = c.requires.halves.trees.0; high_tree = c.requires.halves.trees.1; size = c.half_of.ensures.size } in
    lower_changed _ _ _ _ _ (shape_of c.release-freed.new.self) _ _ (without_acts c.args.span) halves c.if-span-middle.true c.release-freed.ensures.lent

pub release_in_half-returns-else-span-middle-clause-lent : goal.release_in_half-returns-else-span-middle-clause-lent
release_in_half-returns-else-span-middle-clause-lent g t c =
    let halves : AtHalves c.args.level c.args.start c.half_of.result (shape_of c.args.lower.now) (shape_of c.args.upper.now) = record { low_tree = c.requires.halves.trees.0; high_tree = c.requires.halves.trees.1; size = c.half_of.ensures.size } in
    upper_changed _ _ _ _ _ (shape_of c.release-freed-else-span-middle.new.self) _ _ (without_acts c.args.span) halves (omega arith) c.release-freed-else-span-middle.ensures.lent

pub release_in_half-returns-then-span-middle-clause-free : goal.release_in_half-returns-then-span-middle-clause-free
release_in_half-returns-then-span-middle-clause-free g t c =
    passed_on _ _ (λ freed. find (covers c.args.span.start) (free_in_halves c.args.level c.args.start (shape_of c.release-freed.new.self) (shape_of c.args.upper.now)) ≡ Some freed)
    c.unless_free.ensures.same (lower_found _ _ _ (shape_of c.release-freed.new.self) (shape_of c.args.upper.now) _ c.release-freed.ensures.free)

pub release_in_half-returns-else-span-middle-clause-free : goal.release_in_half-returns-else-span-middle-clause-free
release_in_half-returns-else-span-middle-clause-free g t c =
    passed_on _ _ (λ freed. find (covers c.args.span.start) (free_in_halves c.args.level c.args.start (shape_of c.args.lower.now) (shape_of c.release-freed-else-span-middle.new.self)) ≡ Some freed)
    c.unless_free-else-span-middle.ensures.same
    (upper_found _ _ _ _ (shape_of c.args.lower.now) (shape_of c.release-freed-else-span-middle.new.self) _ c.requires.halves.trees.0 c.half_of.ensures.size (omega arith) c.release-freed-else-span-middle.ensures.free)

pub Node::release-returns-in-None-clause-free : goal.Node::release-returns-in-None-clause-free
Node::release-returns-in-None-clause-free g t c =
    merged_whole _ _ _ _ c.part.result c.requires.tree c.requires.of_root c.requires.lent c.part.ensures.start c.part.ensures.level

-- The part is carved in the half where it lies, and the other half stays.
use Rattle.std.proofs.Common.{rules, arith, refl, ap, ◌∙◌}
use Rattle.ms_buddy.specs.Leaves.{fits_in, leaf_of}
use Rattle.ms_buddy.specs.Boxes.{shape_of}
use Rattle.ms_buddy.proofs.SplitLemmas.{AtHalves}
use Rattle.ms_buddy.proofs.boxes.BoxLemmas.{at_boxes, on_ok, refused_alike}
use Rattle.ms_buddy.proofs.changes.CarveLemmas.{lower_may, upper_may, whole_fits_not, lower_fits, upper_fits, lower_is_free, upper_is_free, lower_added, upper_added}
use Rattle.ms_buddy.proofs.node.+carving.Goals as goal

pub Node::carve-returns-then-number-level-clause-answers : goal.Node::carve-returns-then-number-level-clause-answers
Node::carve-returns-then-number-level-clause-answers g t c =
    let s = at_boxes _ c.args.start _ _ _ _ _ _ c.in-Split.is c.requires.tree refl in record {
      room = tt;
      refusal = (refl, ap (fits_in c.args.span) s.free ∙ whole_fits_not c.args.span _ _ _ _ _ s.halves s.low c.requires.may.inside (omega arith));
    }

pub carve_in_half-carve-requires : goal.carve_in_half-carve-requires
carve_in_half-carve-requires g t c κs within = (
  omega (arith, c.requires.may.is_part.0),
  (
    search rules,
    (
      search rules,
      lower_may c.args.span _ _ _ _ c.requires.may c.requires.low c.half_of.ensures.size c.if-span-middle.true,
    ),
  ),
)

pub carve_in_half-carve-requires-else-span-middle : goal.carve_in_half-carve-requires-else-span-middle
carve_in_half-carve-requires-else-span-middle g t c κs within = (
  omega (arith, c.requires.may.is_part.0),
  (
    search rules,
    (
      search rules,
      upper_may c.args.span _ _ _ _ c.requires.may c.requires.low c.half_of.ensures.size (omega arith),
    ),
  ),
)

pub carve_in_half-returns-then-span-middle-clause-lent : goal.carve_in_half-returns-then-span-middle-clause-lent
carve_in_half-returns-then-span-middle-clause-lent g t c =
    let halves : AtHalves c.args.level c.args.start c.half_of.result (shape_of c.args.lower.now) (shape_of c.args.upper.now) = record { low_tree = c.requires.trees.0; high_tree = c.requires.trees.1; size = c.half_of.ensures.size } in
    on_ok _ _ c.carve.result (λ h. lower_added (leaf_of c.args.span c.args.owner c.args.front) _ _ _ _ _ (shape_of c.carve.new.self) halves c.if-span-middle.true h) c.carve.ensures.lent

pub carve_in_half-returns-else-span-middle-clause-lent : goal.carve_in_half-returns-else-span-middle-clause-lent
carve_in_half-returns-else-span-middle-clause-lent g t c =
    let halves : AtHalves c.args.level c.args.start c.half_of.result (shape_of c.args.lower.now) (shape_of c.args.upper.now) = record { low_tree = c.requires.trees.0; high_tree = c.requires.trees.1; size = c.half_of.ensures.size } in
    on_ok _ _ c.carve-else-span-middle.result (λ h. upper_added (leaf_of c.args.span c.args.owner c.args.front) _ _ _ _ _ (shape_of c.carve-else-span-middle.new.self) halves (omega arith) h) c.carve-else-span-middle.ensures.lent

pub carve_in_half-returns-then-span-middle-clause-answers : goal.carve_in_half-returns-then-span-middle-clause-answers
carve_in_half-returns-then-span-middle-clause-answers g t c =
    let halves : AtHalves c.args.level c.args.start c.half_of.result (shape_of c.args.lower.now) (shape_of c.args.upper.now) = record { low_tree = c.requires.trees.0; high_tree = c.requires.trees.1; size = c.half_of.ensures.size } in
    let fits = lower_fits c.args.span _ _ _ _ _ halves c.if-span-middle.true in record {
      room = on_ok _ _ c.carve.result (λ h. fits ∙ h) c.carve.ensures.answers.room;
      refusal = refused_alike c.args.span _ _ c.carve.result fits (lower_is_free c.args.span _ _ _ _ _ halves c.if-span-middle.true) c.carve.ensures.answers.refusal;
    }

pub carve_in_half-returns-else-span-middle-clause-answers : goal.carve_in_half-returns-else-span-middle-clause-answers
carve_in_half-returns-else-span-middle-clause-answers g t c =
    let halves : AtHalves c.args.level c.args.start c.half_of.result (shape_of c.args.lower.now) (shape_of c.args.upper.now) = record { low_tree = c.requires.trees.0; high_tree = c.requires.trees.1; size = c.half_of.ensures.size } in
    let fits = upper_fits c.args.span _ _ _ _ _ halves (omega arith) in record {
      room = on_ok _ _ c.carve-else-span-middle.result (λ h. fits ∙ h) c.carve-else-span-middle.ensures.answers.room;
      refusal = refused_alike c.args.span _ _ c.carve-else-span-middle.result fits (upper_is_free c.args.span _ _ _ _ _ halves (omega arith)) c.carve-else-span-middle.ensures.answers.refusal;
    }

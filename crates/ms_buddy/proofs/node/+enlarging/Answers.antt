-- The leaf is enlarged in the half where it is, and the other half stays, or the halves become one.
use Rattle.std.proofs.Common.{◌≡◌, ◌+◌, rules, arith, ap, sym, ◌∙◌}
use Rattle.ms_base.specs.Level.{size_of}
use Rattle.ms_buddy.proofs.TreeHalvesLemmas.{lower_part, upper_part, size_of-halves}
use Rattle.ms_buddy.proofs.SplitLemmas.{AtHalves, lower_lent, upper_lent, parent_acts, lower_changed, upper_changed}
use Rattle.ms_buddy.specs.Boxes.{shape_of}
use Rattle.ms_buddy.proofs.boxes.BoxLemmas.{ok_and, ok_some, refused_too}
use Rattle.ms_buddy.proofs.changes.EnlargeLemmas.{lower_can, upper_can}
use Rattle.ms_buddy.proofs.node.+enlarging.Goals as goal

pub enlarge_in_half-enlarge-requires : goal.enlarge_in_half-enlarge-requires
enlarge_in_half-enlarge-requires g t c κs within =
    let halves : AtHalves c.args.level c.args.start c.half_of.result (shape_of c.args.lower.now) (shape_of c.args.upper.now) = record { low_tree = c.requires.halves.trees.0; high_tree = c.requires.halves.trees.1; size = c.half_of.ensures.size } in
    (omega arith, (search rules, (search rules, (lower_part _ _ c.requires.halves.of_root c.requires.halves.low, (lower_lent _ _ _ _ _ _ halves c.if-span-middle.true c.requires.lent, search rules)))))

pub enlarge_in_half-enlarge-requires-else-span-middle : goal.enlarge_in_half-enlarge-requires-else-span-middle
enlarge_in_half-enlarge-requires-else-span-middle g t c κs within =
    let halves : AtHalves c.args.level c.args.start c.half_of.result (shape_of c.args.lower.now) (shape_of c.args.upper.now) = record { low_tree = c.requires.halves.trees.0; high_tree = c.requires.halves.trees.1; size = c.half_of.ensures.size } in
    (omega arith, (search rules, (search rules, (upper_part _ _ _ c.requires.halves.of_root c.requires.halves.low (omega (arith, halves.size)), (upper_lent _ _ _ _ _ _ halves (omega arith) c.requires.lent, search rules)))))

pub enlarge_in_half-returns-then-number-level-clause-lent : goal.enlarge_in_half-returns-then-number-level-clause-lent
enlarge_in_half-returns-then-number-level-clause-lent g t c =
    let child : c.args.span.level ≡ c.args.level + 1 = sym c.number.ensures.same ∙ c.if-number-level.true in
    ok_and _ _ c.merged_leader.result (λ owner leads. leads c.args.front) c.merged_leader.ensures.lent
    (ok_some _ c.merged_leader.result (omega (arith, c.requires.front.1, size_of-halves c.args.level c.requires.halves.low, ap size_of child)))

pub enlarge_in_half-returns-in-Ok-clause-lent : goal.enlarge_in_half-returns-in-Ok-clause-lent
enlarge_in_half-returns-in-Ok-clause-lent g t c =
    let halves : AtHalves c.args.level c.args.start c.half_of.result (shape_of c.args.lower.now) (shape_of c.args.upper.now) = record { low_tree = c.requires.halves.trees.0; high_tree = c.requires.halves.trees.1; size = c.half_of.ensures.size } in
    (lower_changed _ _ _ _ _ (shape_of c.enlarge.new.self) _ _ (parent_acts c.args.span c.args.front) halves c.if-span-middle.true c.in-Ok.ensures.lent, tt)

pub enlarge_in_half-returns-in-Ok-enlarge-clause-lent : goal.enlarge_in_half-returns-in-Ok-enlarge-clause-lent
enlarge_in_half-returns-in-Ok-enlarge-clause-lent g t c =
    let halves : AtHalves c.args.level c.args.start c.half_of.result (shape_of c.args.lower.now) (shape_of c.args.upper.now) = record { low_tree = c.requires.halves.trees.0; high_tree = c.requires.halves.trees.1; size = c.half_of.ensures.size } in
    (upper_changed _ _ _ _ _ (shape_of c.enlarge-else-span-middle.new.self) _ _ (parent_acts c.args.span c.args.front) halves (omega arith) c.in-Ok-enlarge.ensures.lent, tt)

pub enlarge_in_half-returns-in-Err-clause-answers : goal.enlarge_in_half-returns-in-Err-clause-answers
enlarge_in_half-returns-in-Err-clause-answers g t c =
    let halves : AtHalves c.args.level c.args.start c.half_of.result (shape_of c.args.lower.now) (shape_of c.args.upper.now) = record { low_tree = c.requires.halves.trees.0; high_tree = c.requires.halves.trees.1; size = c.half_of.ensures.size } in record {
      room = refused_too _ _ (lower_can c.args.span _ _ _ _ _ halves c.requires.halves.of_root c.requires.lent (λ child. c.if-number-level.false (c.number.ensures.same ∙ child)) (omega arith) c.if-span-middle.true) c.in-Err.ensures.answers.room;
      refusal = c.in-Err.ensures.answers.refusal;
    }

pub enlarge_in_half-returns-in-Err-enlarge-clause-answers : goal.enlarge_in_half-returns-in-Err-enlarge-clause-answers
enlarge_in_half-returns-in-Err-enlarge-clause-answers g t c =
    let halves : AtHalves c.args.level c.args.start c.half_of.result (shape_of c.args.lower.now) (shape_of c.args.upper.now) = record { low_tree = c.requires.halves.trees.0; high_tree = c.requires.halves.trees.1; size = c.half_of.ensures.size } in record {
      room = refused_too _ _ (upper_can c.args.span _ _ _ _ _ halves (omega arith)) c.in-Err-enlarge.ensures.answers.room;
      refusal = c.in-Err-enlarge.ensures.answers.refusal;
    }

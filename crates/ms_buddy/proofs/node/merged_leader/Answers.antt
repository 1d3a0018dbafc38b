-- The lower half is the leaf of the span, and it becomes its parent where the upper half is free.
use Rattle.std.proofs.Common.{◌+◌, refl, ap}
use Rattle.ms_base.specs.Level.{size_of}
use Rattle.ms_buddy.specs.Tree.{is_free}
use Rattle.ms_buddy.proofs.SplitLemmas.{AtHalves}
use Rattle.ms_buddy.specs.Boxes.{shape_of}
use Rattle.ms_buddy.proofs.boxes.BoxLemmas.{refused}
use Rattle.ms_buddy.proofs.changes.EnlargeLemmas.{follower_cannot, leader_cannot, starts_here, split_not_leader}
use Rattle.ms_buddy.proofs.node.merged_leader.Goals as goal

pub returns-then-span-start-clause-room : goal.returns-then-span-start-clause-room
returns-then-span-start-clause-room g c =
    let halves : AtHalves c.args.level c.args.start (size_of (c.args.level + 1)) (shape_of c.args.lower.now) (shape_of c.args.upper.now) = record { low_tree = c.requires.trees.0; high_tree = c.requires.trees.1; size = refl } in
    refused _ (follower_cannot c.args.span _ _ _ _ _ _ halves c.requires.of_root c.requires.low c.requires.lent c.requires.child c.if-span-start.true)

pub returns-in-Split-lower-clause-room : goal.returns-in-Split-lower-clause-room
returns-in-Split-lower-clause-room g c =
    let halves : AtHalves c.args.level c.args.start (size_of (c.args.level + 1)) (shape_of c.args.lower.now) (shape_of c.args.upper.now) = record { low_tree = c.requires.trees.0; high_tree = c.requires.trees.1; size = refl } in
    absurd (split_not_leader c.args.span _ _ _ _ _ _ _ halves c.requires.lent c.if-span-start.false c.requires.child (ap shape_of c.in-Split-lower.is))

pub returns-in-Lent-clause-room : goal.returns-in-Lent-clause-room
returns-in-Lent-clause-room g c =
    let halves : AtHalves c.args.level c.args.start (size_of (c.args.level + 1)) (shape_of c.args.lower.now) (shape_of c.args.upper.now) = record { low_tree = c.requires.trees.0; high_tree = c.requires.trees.1; size = refl } in
    refused _ (leader_cannot c.args.span _ _ _ _ _ halves c.requires.child (starts_here c.args.span _ _ _ _ _ halves c.requires.lent c.if-span-start.false) (ap (λ node. is_free (shape_of node)) c.in-Lent.is))

pub returns-in-Split-clause-room : goal.returns-in-Split-clause-room
returns-in-Split-clause-room g c =
    let halves : AtHalves c.args.level c.args.start (size_of (c.args.level + 1)) (shape_of c.args.lower.now) (shape_of c.args.upper.now) = record { low_tree = c.requires.trees.0; high_tree = c.requires.trees.1; size = refl } in
    refused _ (leader_cannot c.args.span _ _ _ _ _ halves c.requires.child (starts_here c.args.span _ _ _ _ _ halves c.requires.lent c.if-span-start.false) (ap (λ node. is_free (shape_of node)) c.in-Split.is))

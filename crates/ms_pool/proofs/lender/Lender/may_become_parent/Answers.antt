use Rattle.std.proofs.Common.{◌%◌, List, sym, ap, ◌∙◌}
use Rattle.std.proofs.lemmas.List.Elements.{recursion_from_All}
use Rattle.ms_base.specs.Level.{root_words}
use Rattle.ms_buddy.specs.Leaves.{LentLeaf, AreLeaves, can_enlarge, free_of, is_lent, span_at}
use Rattle.ms_pool.specs.Growing.{has_room}
use Rattle.ms_buddy.proofs.changes.LeaderLemmas.{no_root_can}
use Rattle.ms_pool.proofs.growths.ParentLemmas.{parents_alike}
use Rattle.ms_pool.proofs.returns.ReleasedTreeLemmas.{leaf_there}
use Rattle.ms_pool.proofs.lender.Lender.may_become_parent.Goals as goal

pub tree-requires : goal.tree-requires
tree-requires c =
    (leaf_there c.args.self.now.trees.items c.args.chunk.now
    (recursion_from_All AreLeaves c.args.self.now.trees.items c.requires.kept.leaves) c.requires.own.lent).0

pub can_enlarge-requires : goal.can_enlarge-requires
can_enlarge-requires c =
    let trees = c.args.self.now.trees.items in
    let chunk = c.args.chunk.now in
    let there = leaf_there trees chunk (recursion_from_All AreLeaves trees c.requires.kept.leaves) c.requires.own.lent
    in
    ap (λ (tree : List LentLeaf). is_lent tree (span_at (chunk.start % root_words) chunk.level)) c.tree.ensures
    ∙ there.1

pub returns : goal.returns
unfolding has_room
returns c =
    let trees = c.args.self.now.trees.items in
    let chunk = c.args.chunk.now in
    let there = leaf_there trees chunk (recursion_from_All AreLeaves trees c.requires.kept.leaves) c.requires.own.lent
    in
    let is = c.can_enlarge.ensures
    ∙ ap (λ (tree : List LentLeaf). can_enlarge (span_at (chunk.start % root_words) chunk.level) (free_of tree))
    c.tree.ensures in
    record {
      room = is
          ∙ sym (parents_alike c.args.space c.args.self.now chunk c.requires.kept c.requires.own.lent
          c.requires.own.reserved);
      no_root = λ can. no_root_can (span_at (chunk.start % root_words) chunk.level) _ (sym is ∙ can);
    }

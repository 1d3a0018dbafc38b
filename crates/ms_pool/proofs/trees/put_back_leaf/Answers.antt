use Rattle.std.proofs.Common.{◌/◌, ◌%◌, [], List, set, ap, ◌∙◌, arith, refl}
use Rattle.std.specs.List.{find}
use Rattle.std.proofs.lemmas.List.{get_or_read, get_or-set_same}
use Rattle.std.proofs.lemmas.List.Elements.{recursion_from_All}
use Rattle.ms_base.specs.Level.{root_words}
use Rattle.ms_buddy.specs.Leaves.{LentLeaf, AreLeaves, covers, free_of, is_lent, without_leaf}
use Rattle.ms_pool.specs.Keeping.{loans_from}
use Rattle.ms_pool.proofs.returns.ReleasedTreeLemmas.{leaf_there, span_in, released_loans}
use Rattle.ms_pool.proofs.trees.put_back_leaf.Goals as goal

pub index_mut-tree-requires : goal.index_mut-tree-requires
index_mut-tree-requires c =
    omega (
      arith,
      c.args.trees.now.ok.0,
      (leaf_there c.args.trees.now.items c.args.chunk.now
          (recursion_from_All AreLeaves c.args.trees.now.items c.requires.leaves) c.requires.lent).0,
    )

pub release-requires : goal.release-requires
release-requires c =
    let trees = c.args.trees.now.items in
    let chunk = c.args.chunk.now in
    let there = leaf_there trees chunk (recursion_from_All AreLeaves trees c.requires.leaves) c.requires.lent in
    ap (λ (tree : List LentLeaf). is_lent tree (span_in chunk))
    (get_or_read trees (chunk.start / root_words) c.index_mut-tree.result.now there.0 c.index_mut-tree.ensures.value
    []) ∙ there.1

pub returns-clause-loans : goal.returns-clause-loans
returns-clause-loans c =
    let trees = c.args.trees.now.items in
    let chunk = c.args.chunk.now in
    let root = chunk.start / root_words in
    let there = leaf_there trees chunk (recursion_from_All AreLeaves trees c.requires.leaves) c.requires.lent in
    ap (λ (tree : List LentLeaf). loans_from 0 (set trees root tree))
    (c.release.ensures.lent
    ∙ ap (without_leaf (span_in chunk))
    (get_or_read trees root c.index_mut-tree.result.now there.0 c.index_mut-tree.ensures.value []))
    ∙ released_loans trees root chunk (span_in chunk) there.0 (recursion_from_All AreLeaves trees c.requires.leaves)
    (omega arith) refl (omega arith)

pub returns-clause-there : goal.returns-clause-there
returns-clause-there c =
    (leaf_there c.args.trees.now.items c.args.chunk.now
    (recursion_from_All AreLeaves c.args.trees.now.items c.requires.leaves) c.requires.lent).0

pub returns-clause-free : goal.returns-clause-free
returns-clause-free c =
    let trees = c.args.trees.now.items in
    let chunk = c.args.chunk.now in
    let there = leaf_there trees chunk (recursion_from_All AreLeaves trees c.requires.leaves) c.requires.lent in
    ap (λ (tree : List LentLeaf). find (covers (chunk.start % root_words)) (free_of tree))
    (get_or-set_same trees (chunk.start / root_words) c.release.new.self [] there.0)
    ∙ c.release.ensures.free

use Rattle.std.proofs.Common.{rules, ◌<◌, ◌/◌, ◌%◌, [], List, length, set, sym, ap, ◌∙◌, arith, eq-eqb}
use Rattle.std.proofs.Common.{eqb-true}
use Rattle.std.proofs.lemmas.List.{get_or_read}
use Rattle.std.proofs.lemmas.List.Elements.{recursion_from_All}
use Rattle.ms_base.specs.Level.{root_words}
use Rattle.ms_buddy.specs.Leaves.{LentLeaf, AreLeaves, span_at, with_front, with_parent}
use Rattle.ms_pool.specs.Keeping.{loans_from}
use Rattle.ms_pool.proofs.growths.RaisedTreeLemmas.{grown_size, loans_with_front, loans_with_parent, parent_level}
use Rattle.ms_pool.proofs.trees.raise_leaf.Goals as goal

pub enlarge-requires-clause-front : goal.enlarge-requires-clause-front
enlarge-requires-clause-front c = (
  search rules,
  grown_size c.args.chunk.now.level c.args.greater.now.level c.args.greater.now.front _ c.requires.may.within
      c.requires.may.grows c.requires.may.low,
)

pub returns-then-eq-clause-loans : goal.returns-then-eq-clause-loans
returns-then-eq-clause-loans c =
    let trees = c.args.trees.now.items in
    let chunk = c.args.chunk.now in
    let greater = c.args.greater.now in
    let root = chunk.start / root_words in
    let part = span_at (chunk.start % root_words) chunk.level in
    let within : root < length trees = omega (arith, c.requires.may.there) in
    ap (λ (t : List LentLeaf). loans_from 0 (set trees root t))
    (c.set_front.ensures.front
    ∙ ap (with_front part greater.front)
    (get_or_read trees root c.index_mut-tree.result.now within c.index_mut-tree.ensures.value []))
    ∙ loans_with_front trees root part greater within (recursion_from_All AreLeaves trees c.requires.leaves)
    (omega (arith, c.requires.may.start)) (eqb-true greater.level chunk.level (sym c.eq.ensures ∙ c.if-eq.true)) (omega arith)
    c.requires.may.lent

pub returns-in-Ok-clause-loans : goal.returns-in-Ok-clause-loans
returns-in-Ok-clause-loans c =
    let trees = c.args.trees.now.items in
    let chunk = c.args.chunk.now in
    let greater = c.args.greater.now in
    let root = chunk.start / root_words in
    let part = span_at (chunk.start % root_words) chunk.level in
    let within : root < length trees = omega (arith, c.requires.may.there) in
    ap (λ (t : List LentLeaf). loans_from 0 (set trees root t))
    (c.in-Ok.ensures.lent
    ∙ ap (with_parent part greater.front)
    (get_or_read trees root c.index_mut-tree.result.now within c.index_mut-tree.ensures.value []))
    ∙ loans_with_parent trees root part greater within (recursion_from_All AreLeaves trees c.requires.leaves)
    (omega (arith, c.requires.may.start))
    (parent_level chunk.level greater.level _ c.requires.may.grows
    (λ same. absurd (cc (eq-eqb greater.level chunk.level same, c.eq.ensures, c.if-eq.false)))) (omega arith)
    c.requires.may.lent

use Rattle.std.proofs.Common.{◌+◌, ◌*◌, Some, arith, sym, ap, ◌∙◌}
use Rattle.std.specs.List.{find}
use Rattle.ms_base.specs.declared.span.Span.{Span}
use Rattle.ms_base.specs.Level.{root_words}
use Rattle.ms_base.specs.Policy.{granule_of}
use Rattle.ms_buddy.specs.Leaves.{free_of, is_of_from}
use Rattle.ms_pool.proofs.searches.NextFreeLemmas.{at_turn, first_in-from, free_rise, is_enough_in, raised, turn_ends}
use Rattle.ms_pool.proofs.searches.NextFreeLemmas.{turn_goes_on, turn_passes}
use Rattle.ms_pool.proofs.lender.Lender.lowest_in_root.Goals as goal

pub overflow_add-start : goal.overflow_add-start
overflow_add-start c =
    let turn = at_turn c.args.self.now.trees.items c.args.root _ _ _ _ _ c.tree.ensures c.next_free.ensures c.in-Some.is
    in
    omega (arith, turn.next.inside, c.requires.there, c.requires.kept.trees, c.requires.kept.nodes.class_slots)

pub is_enough-requires : goal.is_enough-requires
is_enough-requires c =
    let turn = at_turn c.args.self.now.trees.items c.args.root _ _ _ _ _ c.tree.ensures c.next_free.ensures c.in-Some.is
    in
    omega (
      arith,
      turn.next.inside,
      c.requires.there,
      c.requires.fits,
      c.requires.kept.trees,
      c.requires.kept.nodes.class_slots,
    )

pub overflow_add-from : goal.overflow_add-from
overflow_add-from c =
    let turn = at_turn c.args.self.now.trees.items c.args.root _ _ _ _ _ c.tree.ensures c.next_free.ensures c.in-Some.is
    in
    omega (arith, turn.next.inside)

pub loop-leaf-smaller : goal.loop-leaf-smaller
loop-leaf-smaller c =
    let turn = at_turn c.args.self.now.trees.items c.args.root _ _ _ _ _ c.tree.ensures c.next_free.ensures c.in-Some.is
    in
    omega (arith, turn.next.inside, turn.next.past)

pub loop-leaf-preserved : goal.loop-leaf-preserved
loop-leaf-preserved c =
    let turn = at_turn c.args.self.now.trees.items c.args.root _ _ _ _ _ c.tree.ensures c.next_free.ensures c.in-Some.is
    in
    record {
      within = omega (arith, turn.next.inside);
      first = c.loop-leaf.invariant.first
          ∙ turn_goes_on _ _ _ _ _ (free_rise _) turn.next.past turn.found
          (sym c.is_enough.ensures ∙ c.if-is_enough.false);
    }

pub returns-then-is_enough : goal.returns-then-is_enough
returns-then-is_enough c =
    let turn = at_turn c.args.self.now.trees.items c.args.root _ _ _ _ _ c.tree.ensures c.next_free.ensures c.in-Some.is
    in
    sym (first_in-from _ _ _ _ _ _ _
    ∙ ap (raised c.args.root)
    (c.loop-leaf.invariant.first
    ∙ turn_passes
    (is_enough_in c.args.self.now.nodes.granules (granule_of c.args.self.now.policy) c.args.wish.now.words
    c.args.wish.now.committed c.args.root) c.args.level c.loop-leaf.from _ _ turn.found
    (sym c.is_enough.ensures ∙ c.if-is_enough.true))
    ∙ ap (λ level. let part : Span = record { start = c.in-Some.leaf.start + c.args.root * root_words; level = level }
    in Some part) turn.next.same)

pub returns : goal.returns
returns c =
    let none =
    sym (c.next_free.ensures ∙ ap (λ t. find (is_of_from c.args.level c.loop-leaf.from) (free_of t)) c.tree.ensures)
    ∙ c.in_default.is in
    sym (first_in-from _ _ _ _ _ _ _
    ∙ ap (raised c.args.root)
    (c.loop-leaf.invariant.first
    ∙ turn_ends
    (is_enough_in c.args.self.now.nodes.granules (granule_of c.args.self.now.policy) c.args.wish.now.words
    c.args.wish.now.committed c.args.root) c.args.level c.loop-leaf.from _ none))

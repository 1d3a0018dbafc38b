use Rattle.std.proofs.Common.{◌≡◌, [], arith, refl, rules, subst, sym}
use Rattle.ms_blocks.specs.Classes.{AreClassed, all_of}
use Rattle.ms_blocks.proofs.ClassLemmas.{classed_more, none_more}
use Rattle.ms_blocks.proofs.ClassChangeLemmas.{tells_none}
use Rattle.ms_blocks.proofs.classes.make_trees.Goals as goal

pub loop-preserved : goal.loop-preserved
loop-preserved g c = record {
  many = search rules;
  classed = subst (λ trees. AreClassed 0 trees) (sym c.push_reserved.ensures.items)
      (classed_more c.loop.trees.items 0 _ c.loop.invariant.classed refl);
  none = subst (λ trees. all_of trees ≡ []) (sym c.push_reserved.ensures.items)
      (none_more c.loop.trees.items _ c.loop.invariant.none refl);
  room = search rules;
}

pub returns-clause-trees : goal.returns-clause-trees
returns-clause-trees g c = record {
  there = omega (arith, c.loop.invariant.many, c.loop-test.false, c.loop.auto.counter-end);
  classed = c.loop.invariant.classed;
  tells = tells_none c.loop.trees.items c.loop.invariant.none;
}

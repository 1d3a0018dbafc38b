-- The class of the words has the first fit, or the next one that has a block.
use Rattle.std.proofs.Common.{◌≡◌, None, rules, sym}
use Rattle.ms_blocks.specs.Classes.{all_of}
use Rattle.ms_blocks.specs.Rank.{first_fit}
use Rattle.ms_blocks.proofs.ClassChangeLemmas.{found_next, left_next, next_fits, none_at_all, none_below, none_to_next}
use Rattle.ms_blocks.proofs.RankLemmas.{without_fit-none}
use Rattle.ms_blocks.proofs.classes.take_in.Given.{Over}
use Rattle.ms_blocks.proofs.classes.take_in.Goals as goal
use Rattle.ms_blocks.proofs.classes.take_in.Goals.{After-from_residual}

pub take_at-requires-clause-before : goal.take_at-requires-clause-before
take_at-requires-clause-before g c = (
  search rules,
  none_below c.args.trees.now c.args.some.now c.class_of-class.result c.args.words c.requires.trees c.class_of-class.ensures.class,
)

none : (g : Over) (c : After-from_residual g) → first_fit (all_of c.args.trees.now) c.args.words ≡ None
none g c =
    none_at_all c.args.trees.now c.args.some.now c.class_of-class.result c.args.words c.requires.trees c.class_of-class.ensures.class
    c.in-None.ensures.none (rw c.in-None.ensures.told at c.in_err-later-in-None.ensures.none)

pub returns-in_err-later-in-None-clause-found : goal.returns-in_err-later-in-None-clause-found
returns-in_err-later-in-None-clause-found g c = rw c.from_residual.ensures (none g c)

pub returns-in_err-later-in-None-clause-left : goal.returns-in_err-later-in-None-clause-left
returns-in_err-later-in-None-clause-left g c =
    rw c.in-None.ensures.unchanged (sym (without_fit-none (all_of c.args.trees.now) c.args.words (none g c)))

pub take_at-requires-in-None-clause-before : goal.take_at-requires-in-None-clause-before
take_at-requires-in-None-clause-before g c = (
  search rules,
  rw c.in-None.ensures.unchanged
      (none_to_next c.args.trees.now c.args.some.now c.class_of-class.result c.in_ok-later-in-None.later c.args.words c.requires.trees
      c.class_of-class.ensures.class c.in-None.ensures.none (rw c.in-None.ensures.told at c.in_ok-later-in-None.ensures.next)),
)

pub returns-in_ok-later-in-None-clause-found : goal.returns-in_ok-later-in-None-clause-found
returns-in_ok-later-in-None-clause-found g c =
    found_next _ _ c.take_at-in-None.result (rw c.in-None.ensures.unchanged at c.take_at-in-None.ensures.found)
    (rw c.in-None.ensures.unchanged at c.take_at-in-None.ensures.none)
    (next_fits c.args.trees.now c.args.some.now c.class_of-class.result c.in_ok-later-in-None.later c.args.words c.requires.trees
    c.class_of-class.ensures.class (rw c.in-None.ensures.told at c.in_ok-later-in-None.ensures.next))

pub returns-in_ok-later-in-None-clause-left : goal.returns-in_ok-later-in-None-clause-left
returns-in_ok-later-in-None-clause-left g c =
    left_next c.take_at-in-None.result (rw c.in-None.ensures.unchanged at c.take_at-in-None.ensures.left)
    (rw c.in-None.ensures.unchanged at c.take_at-in-None.ensures.none)
    (next_fits c.args.trees.now c.args.some.now c.class_of-class.result c.in_ok-later-in-None.later c.args.words c.requires.trees
    c.class_of-class.ensures.class (rw c.in-None.ensures.told at c.in_ok-later-in-None.ensures.next))

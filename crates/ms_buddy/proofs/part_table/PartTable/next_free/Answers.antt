-- The free leaves of the tree are the free parts that its lent leaves leave over.
use Rattle.std.proofs.Common.{arith, ap, ◌∙◌}
use Rattle.std.specs.List.{find}
use Rattle.ms_buddy.specs.Leaves.{free_of, is_of_from}
use Rattle.ms_buddy.proofs.FreeLeafLemmas.{free_of-kept}
use Rattle.ms_buddy.proofs.searches.FoundLemmas.{found_lowest, found_none, found_past}
use Rattle.ms_buddy.proofs.bits.NumberLemmas.{first_in_row, row_end, row_end_fits}
use Rattle.ms_buddy.proofs.part_table.PartTable.next_free.Goals as goal

pub next-requires-clause-end : goal.next-requires-clause-end
next-requires-clause-end g c =
    omega (
      arith,
      row_end c.number-number.result c.number-number.ensures.below,
      row_end_fits c.number-number.result c.number-number.ensures.below,
    )

pub start_of-requires-clause-from : goal.start_of-requires-clause-from
start_of-requires-clause-from g c =
    omega (
      arith,
      c.in-Some.ensures.found.low,
      c.first_from.ensures,
      first_in_row c.number-number.result c.args.from c.number-number.ensures.below,
    )

pub returns-then-from-ge-ROOT_WORDS : goal.returns-then-from-ge-ROOT_WORDS
returns-then-from-ge-ROOT_WORDS g c =
    found_past c.self.invariant.node c.args.level c.args.from c.self.invariant.tree.tree c.if-from-ge-ROOT_WORDS.true
    ∙ ap (find (is_of_from c.args.level c.args.from))
    (free_of-kept _ _ _ _ _ c.self.invariant ∙ ap free_of c.self.view_is)

pub returns-in-None : goal.returns-in-None
returns-in-None g c =
    found_none c.self.invariant.node _ c.args.level c.args.from c.self.invariant.tree.tree c.self.invariant.tree.marked
    (rw (row_end_fits c.number-number.result c.number-number.ensures.below, c.first_from.ensures, c.number-number.ensures.same)
    at c.in-None.ensures.none)
    ∙ ap (find (is_of_from c.args.level c.args.from))
    (free_of-kept _ _ _ _ _ c.self.invariant ∙ ap free_of c.self.view_is)

pub returns-in-Some : goal.returns-in-Some
returns-in-Some g c =
    found_lowest c.self.invariant.node _ c.args.level c.args.from c.in-Some.found c.part.result c.self.invariant.tree.tree
    c.self.invariant.tree.marked (omega (arith, c.number-number.ensures.below, c.number-number.ensures.same))
    (rw (row_end_fits c.number-number.result c.number-number.ensures.below, c.first_from.ensures, c.number-number.ensures.same)
    at c.in-Some.ensures.found)
    (c.part.ensures.level ∙ c.number-number.ensures.same)
    (rw c.number-number.ensures.same at (rw (← c.part.ensures.start) at c.start_of.ensures))
    ∙ ap (find (is_of_from c.args.level c.args.from))
    (free_of-kept _ _ _ _ _ c.self.invariant ∙ ap free_of c.self.view_is)

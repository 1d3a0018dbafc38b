use Rattle.std.proofs.Common.{◌/◌, ap, sym, ◌∙◌, arith}
use Rattle.ms_pool.specs.Searching.{first_at, first_in_slot, part_at}
use Rattle.ms_pool.proofs.searches.SearchLemmas.{found_here, found_later}
use Rattle.ms_pool.proofs.searches.SkipLemmas.{decided_at, decided_last, found_by, looked_to_first}
use Rattle.ms_pool.proofs.lender.Lender.lowest_among.Goals as goal

pub loop-root-init : goal.loop-root-init
loop-root-init c =
    looked_to_first c.args.wish.now.space c.args.self.now c.args.wish.now.words c.args.wish.now.committed c.args.level _
    c.requires.kept c.slots_of-first.ensures.first

pub loop-root-preserved : goal.loop-root-preserved
unfolding first_in_slot
loop-root-preserved c = record {
  low = omega (arith, c.loop-root.invariant.low, c.in-Some.ensures.from);
  high = omega (arith, c.in-Some.ensures.below, c.slots_of-first.ensures.end);
  first = decided_at c.args.wish.now.space c.args.self.now c.args.wish.now.words c.args.wish.now.committed c.args.level
      c.loop-root.slot (c.in-Some.root / 2) c.requires.kept c.args.wish.now.some c.requires.fits c.loop-root.invariant
      (omega (arith, c.in-Some.ensures.from)) (omega (arith, c.in-Some.ensures.below, c.slots_of-first.ensures.end))
      (λ root low high. c.in-Some.ensures.lowest root low (omega arith))
      ∙ found_later
      (found_by c.args.wish.now.space c.args.self.now c.args.wish.now.words c.args.wish.now.committed c.args.level
      (c.in-Some.root / 2)) _
      (sym c.lowest_in_slot.ensures ∙ ap (part_at c.args.level) c.in_default-lowest_in_slot.is);
}

pub returns-in-Some-lowest_in_slot : goal.returns-in-Some-lowest_in_slot
unfolding first_at first_in_slot
returns-in-Some-lowest_in_slot c = sym (
    decided_at c.args.wish.now.space c.args.self.now c.args.wish.now.words c.args.wish.now.committed c.args.level
    c.loop-root.slot (c.in-Some.root / 2) c.requires.kept c.args.wish.now.some c.requires.fits c.loop-root.invariant
    (omega (arith, c.in-Some.ensures.from)) (omega (arith, c.in-Some.ensures.below, c.slots_of-first.ensures.end))
    (λ root low high. c.in-Some.ensures.lowest root low (omega arith))
    ∙ found_here
    (found_by c.args.wish.now.space c.args.self.now c.args.wish.now.words c.args.wish.now.committed c.args.level
    (c.in-Some.root / 2)) _ _ (sym c.lowest_in_slot.ensures ∙ ap (part_at c.args.level) c.in-Some-lowest_in_slot.is))

pub returns : goal.returns
unfolding first_at
returns c =
    sym (decided_last c.args.wish.now.space c.args.self.now c.args.wish.now.words c.args.wish.now.committed c.args.level
    c.loop-root.slot c.requires.kept c.args.wish.now.some c.requires.fits c.loop-root.invariant
    (λ root low high. c.in_default.ensures.none root low (omega (arith, high, c.slots_of-first.ensures.end))))

-- A whole root is one free leaf of level 0.
use Rattle.std.proofs.Common.{refl, arith}
use Rattle.ms_buddy.specs.Tree.{Free}
use Rattle.ms_buddy.proofs.bits.FreeNumberLemmas.{whole_is_marked}
use Rattle.ms_buddy.proofs.counts.TreeCountLemmas.{whole_is_counted}
use Rattle.ms_buddy.proofs.part_table.PartTable.new.Goals as goal

pub invariant_of-result : goal.invariant_of-result
invariant_of-result g c = rw c.new.ensures (record {
  node = Free;
  tree = record {
    tree = tt;
    counted = whole_is_counted;
    marked = whole_is_marked c.whole.result.words c.whole.ensures.bits;
    told = c.whole.ensures.filled;
  };
  lent_is = refl;
  some = omega arith;
  room = λ split. absurd split;
})

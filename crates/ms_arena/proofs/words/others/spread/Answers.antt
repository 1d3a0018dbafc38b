-- The groups have what the list has up to a position.
use Rattle.std.proofs.Common.{arith}
use Rattle.ms_arena.specs.Others.{position_grouped}
use Rattle.ms_arena.proofs.OthersLemmas.{set_on}
use Rattle.ms_arena.proofs.words.others.spread.Goals as goal

pub loop-at-preserved : goal.loop-at-preserved
loop-at-preserved c = record {
  groups = c.set_in.ensures.groups;
  numbers = c.set_in.ensures.numbers;
  room = omega (arith, c.loop-at.invariant.room, c.set_in.ensures.room, c.loop-at-test.true);
  set = set_on c.args.list.now c.loop-at.at (record { stretch = 0; position = 0 })
      (position_grouped c.loop-at.numbers.items c.loop-at.positions.items)
      (position_grouped c.set_in.new.numbers.items c.set_in.new.positions.items)
      c.loop-at-test.true c.loop-at.invariant.set c.set_in.ensures.set;
}

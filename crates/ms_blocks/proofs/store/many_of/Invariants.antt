use Rattle.std.proofs.Common.{◌≡◌, ◌+◌, ◌-◌, take}
use Rattle.ms_blocks.specs.Store.{HasRoom, IsStore, blocks_in}
use Rattle.ms_blocks.proofs.store.many_of.Given as goal

-- The first blocks are there, and there is room for the others and what may come.
abbrev pub invariant-loop-block : goal.invariant-loop-block
invariant-loop-block g l = record {
  store : IsStore l.store;
  blocks : blocks_in l.store ≡ take l.block-index l.row;
  room : HasRoom l.store (l.room + (l.block-index-end - l.block-index));
}

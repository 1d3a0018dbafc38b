use Rattle.std.proofs.Common.{◌≡◌, ◌+◌, ◌-◌, ◌<◌, ◌≤◌, ℕ, List, ap, arith, length, slice_index_or, subst, suc, sym, take, ◌∙◌}
use Rattle.std.proofs.lemmas.List.{take_all}
use Rattle.ms_base.specs.declared.span.Block.{Block}
use Rattle.ms_blocks.specs.Rank.{IsRanked, with_ranked}
use Rattle.ms_blocks.specs.Store.{HasRoom}
use Rattle.ms_blocks.specs.declared.store.Store.{Store}
use Rattle.ms_blocks.specs.declared.store.Store.TheVariants.{Few, Many}
use Rattle.ms_blocks.proofs.FewLemmas.{next_taken, ranked_taken}
use Rattle.ms_blocks.proofs.store.many_of.Goals as goal

-- Where there is room for many there is room for fewer.
room_for : {A : Type 0} (store : Store A) (few many : ℕ) → few ≤ many → HasRoom store many → HasRoom store few
room_for (Few row) few many fewer room = omega (arith, fewer, room)
room_for (Many trees some spare) few many fewer room = omega (arith, fewer, room)

-- One block more of the row is there.
taken_more : (row was grown : List Block) (at : ℕ) (d : Block) → IsRanked row → at < length row → was ≡ take at row
    → grown ≡ with_ranked was (slice_index_or row at d) → grown ≡ take (at + 1) row
taken_more row was grown at d ranked within first grows =
    let next : suc at ≡ at + 1 = omega arith in
    grows ∙ ap (λ (blocks : List Block). with_ranked blocks (slice_index_or row at d)) first
    ∙ next_taken row at d ranked within ∙ ap (λ (n : ℕ). take n row) next

pub loop-block-init : goal.loop-block-init
loop-block-init g c = record {
  store = (c.in_ok-trees.ensures.trees, omega (arith, c.in_ok-fill.ensures.slots, ap length c.in_ok-trees.ensures.empty));
  blocks = c.in_ok-trees.ensures.empty;
  room = omega (arith, c.in_ok-fill.ensures.filled);
}

pub insert-requires-clause-ranked : goal.insert-requires-clause-ranked
insert-requires-clause-ranked g c =
    subst IsRanked (sym c.loop-block.invariant.blocks)
    (ranked_taken c.args.row.now c.loop-block.block-index c.requires.ranked)

pub insert-requires-clause-room : goal.insert-requires-clause-room
insert-requires-clause-room g c = room_for c.loop-block.store 1 _ (omega (arith, c.loop-block-test.true)) c.loop-block.invariant.room

pub loop-block-preserved : goal.loop-block-preserved
loop-block-preserved g c =
    let row = c.args.row.now in
    let at = c.loop-block.block-index in
    let less : c.args.room + (length row - at) ≡ c.args.room + (length row - (at + 1)) + 1 =
    omega (arith, c.loop-block-test.true) in
    record {
      store = c.insert.ensures.store;
      blocks = taken_more row _ _ at _ c.requires.ranked c.loop-block-test.true c.loop-block.invariant.blocks
          c.insert.ensures.blocks;
      room = c.insert.ensures.room (c.args.room + (length row - (at + 1)))
          (subst (HasRoom c.loop-block.store) less c.loop-block.invariant.room);
    }

pub returns-clause-blocks : goal.returns-clause-blocks
returns-clause-blocks g c =
    c.loop-block.invariant.blocks ∙ take_all c.loop-block.block-index c.args.row.now c.loop-block-test.false

pub returns-clause-room : goal.returns-clause-room
returns-clause-room g c =
    room_for c.loop-block.store c.args.room _ (omega (arith, c.loop-block-test.false)) c.loop-block.invariant.room

-- On either side the block comes to where it ranks.
use Rattle.std.proofs.Common.{◌≡◌, true, false}
use Rattle.ms_blocks.specs.Rank.{ranks_before}
use Rattle.ms_blocks.specs.Tree.{blocks_of}
use Rattle.ms_blocks.proofs.tree.+insert.Goals as goal
use Rattle.ms_blocks.proofs.RankLemmas.{insert_right, insert_left}

pub returns-then-ranks_first : goal.returns-then-ranks_first
returns-then-ranks_first g t c ranked =
    let fork = c.in-Forked.fork.value in
    let before : ranks_before fork.block c.args.spare.value.block ≡ true = cc in
    rw (c.in-Forked.is, c.level_grown.ensures, c.deref_mut.ensures.value)
    (insert_right (blocks_of fork.left) (blocks_of fork.right)
    (blocks_of c.insert-higher.new.tree) fork.block c.args.spare.value.block
    (rw c.in-Forked.is at ranked) before (rw c.deref_mut.ensures.value at c.insert-higher.ensures))

pub returns-else-ranks_first : goal.returns-else-ranks_first
returns-else-ranks_first g t c ranked =
    let fork = c.in-Forked.fork.value in
    let behind : ranks_before fork.block c.args.spare.value.block ≡ false = cc in
    rw (c.in-Forked.is, c.level_grown-else-ranks_first.ensures, c.deref_mut-else-ranks_first.ensures.value)
    (insert_left (blocks_of fork.left) (blocks_of fork.right)
    (blocks_of c.insert-higher-else-ranks_first.new.tree) fork.block c.args.spare.value.block
    (rw c.in-Forked.is at ranked) behind
    (rw c.deref_mut-else-ranks_first.ensures.value at c.insert-higher-else-ranks_first.ensures))

use Rattle.ms_base.specs.Level.{level_count}
use Rattle.std.proofs.Common.{[], ◌<◌, get_or, arith}
use Rattle.ms_buddy.specs.Counts.{count_at_level}
use Rattle.ms_buddy.specs.Leaves.{free_of}
use Rattle.ms_pool.proofs.counts.PoolCountLemmas.{raised_to_first, raised_to_last, raised_to_next, room_at}
use Rattle.ms_pool.proofs.lender.Lender.free_in_root.Goals as goal

pub loop-level-init : goal.loop-level-init
loop-level-init c =
    raised_to_first c.args.before.free
    (λ level. count_at_level level (free_of (get_or c.args.self.now.trees.items c.args.root [])))

pub loop-level-preserved : goal.loop-level-preserved
loop-level-preserved c =
    raised_to_next c.args.before.free c.loop-level.counted.free c.count_parts.new.counted.free
    (λ level. count_at_level level (free_of (get_or c.args.self.now.trees.items c.args.root []))) c.loop-level.level
    c.loop-level.invariant (rw (c.new.ensures, c.tree-tree.ensures) at c.count_parts.ensures)

pub count_parts-requires : goal.count_parts-requires
count_parts-requires c =
    let low : c.loop-level.level < level_count = c.loop-level-test.true in
    rw (c.new.ensures, c.tree-tree.ensures)
    (room_at c.args.before.free c.loop-level.counted.free
    (λ level. count_at_level level (free_of (get_or c.args.self.now.trees.items c.args.root []))) c.loop-level.level
    low c.loop-level.invariant (c.requires.room c.loop-level.level low))

pub returns : goal.returns
returns c =
    raised_to_last c.args.before.free c.loop-level.counted.free
    (λ level. count_at_level level (free_of (get_or c.args.self.now.trees.items c.args.root []))) c.loop-level.level
    (omega (arith, c.loop-level-test.false)) c.loop-level.invariant

use Rattle.std.proofs.Common.{rules, sym, ◌∙◌}
use Rattle.std.proofs.lemmas.List.Sorted.{IsPartitionPoint-from_clause}
use Rattle.ms_blocks.specs.Rank.{ranks_before}
use Rattle.ms_blocks.proofs.FewLemmas.{parted_by_rank, put_at}
use Rattle.ms_blocks.proofs.few.put.Goals as goal

pub returns-clause-blocks : goal.returns-clause-blocks
returns-clause-blocks g c =
    let parted = parted_by_rank _ c.args.block (rw (← c.as_slice.ensures.value) at c.requires.ranked) in
    let point = IsPartitionPoint-from_clause (λ other. ranks_before other c.args.block) _ _
    c.partition_point-at.ensures.partitioned parted (λ a r q k. search rules) in
    c.in-Ok.ensures.items ∙ sym (put_at c.args.row.now.items _ c.args.block
    (rw c.as_slice.ensures.value at c.partition_point-at.ensures.bound) (rw c.as_slice.ensures.value at point))

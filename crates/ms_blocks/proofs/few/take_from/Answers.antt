use Rattle.std.proofs.Common.{◌<◌, Some, ap, arith, length, nat_lt, rules, sym, ◌∙◌}
use Rattle.std.proofs.lemmas.List.Sorted.{IsPartitionPoint-from_clause}
use Rattle.ms_blocks.proofs.FewLemmas.{TakesAt, parted_by_words, take_at}
use Rattle.ms_blocks.proofs.RankLemmas.{without_fit-none}
use Rattle.ms_blocks.proofs.few.take_from.Given.{Over}
use Rattle.ms_blocks.proofs.few.take_from.Goals as goal
use Rattle.ms_blocks.proofs.few.take_from.Goals.{After-partition_point-at, After-remove}

-- Where the first that isn't too small stands.
position : (g : Over) (c : After-partition_point-at g)
    → TakesAt c.args.row.now.items c.partition_point-at.result c.args.words
position g c =
    let parted = parted_by_words _ c.args.words (rw (← c.as_slice.ensures.value) at c.requires) in
    let point = IsPartitionPoint-from_clause (λ block. nat_lt block.words c.args.words) _ _
    c.partition_point-at.ensures.partitioned parted (λ a r q k. search rules) in
    take_at c.args.row.now.items _ c.args.words (rw c.as_slice.ensures.value at point)

pub returns-then-at-len-clause-found : goal.returns-then-at-len-clause-found
returns-then-at-len-clause-found g c =
    (position g (goal.at.returns-then-at-len-clause-found g c).After-partition_point-at).none
    (omega (arith, ap length c.as_slice.ensures.value, c.as_slice.ensures.len, c.len.ensures, c.if-at-len.true))

pub returns-then-at-len-clause-left : goal.returns-then-at-len-clause-left
returns-then-at-len-clause-left g c =
    sym (without_fit-none c.args.row.now.items c.args.words (returns-then-at-len-clause-found g c))

-- It is one of the row's.
within : (g : Over) (c : After-remove g) → c.partition_point-at.result < length c.args.row.now.items
within g c = omega (
  arith,
  ap length c.as_slice.ensures.value,
  c.as_slice.ensures.len,
  c.partition_point-at.ensures.bound,
  c.len.ensures,
  c.if-at-len.false,
)

pub returns-clause-found : goal.returns-clause-found
returns-clause-found g c =
    (position g (goal.at.returns-clause-found g c).After-partition_point-at).found c.remove.result (within g c)
    ∙ ap Some (sym c.remove.ensures.value)

pub returns-clause-left : goal.returns-clause-left
returns-clause-left g c =
    c.remove.ensures.items
    ∙ sym ((position g (goal.at.returns-clause-left g c).After-partition_point-at).left (within g c))

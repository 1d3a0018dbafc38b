use Rattle.std.proofs.Common.{◌*◌, ◌+◌, ◌&&◌, ap, ◌∙◌, length, arith}
use Rattle.std.specs.Prelude.{nat_le, nat_lt}
use Rattle.ms_commit.specs.Mask.{is_set}
use Rattle.ms_commit.proofs.RangeLemmas.{filter-window}
use Rattle.ms_commit.proofs.MaskLemmas.{is_set-past}
use Rattle.ms_commit.proofs.CountLemmas.{counted_more, none_within, within_below}
use Rattle.ms_commit.proofs.mask.count_bits.Goals as goal

pub loop-index-init : goal.loop-index-init
loop-index-init c = none_within c.args.words.now c.args.first c.args.end

pub loop-index-preserved : goal.loop-index-preserved
loop-index-preserved c =
    counted_more (λ k. nat_le c.args.first k && nat_lt k c.args.end) c.args.words.now c.loop-index.index
    c.bits_between.result c.loop-index.count
    (omega arith) c.bits_between.ensures c.loop-index.invariant

pub overflow_add-count : goal.overflow_add-count
overflow_add-count c =
    omega (
      arith,
      loop-index-preserved c,
      within_below c.args.words.now c.args.first c.args.end (64 * (c.loop-index.index + 1)),
    )

pub returns : goal.returns
returns c =
    c.loop-index.invariant
    ∙ ap length (filter-window (is_set c.args.words.now) c.args.first c.args.end (64 * c.loop-index.index)
    (λ k past from under. is_set-past c.args.words.now k (omega arith)))

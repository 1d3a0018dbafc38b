use Rattle.std.proofs.Common.{length, ap, ◌∙◌, ℕ, false, arith}
use Rattle.std.proofs.lemmas.List.FromFn.{fill_by_all}
use Rattle.ms_c.specs.Sums.{bit_at}
use Rattle.ms_member.proofs.BitLemmas.{one_more}
use Rattle.ms_c.proofs.telling.write_bits.Goals as goal

-- all elements are written
pub returns : goal.returns
returns c =
    fill_by_all (bit_at c.args.system.now c.args.first) c.loop-index.out (length c.args.out.now) false
    c.loop-index.invariant.0 (λ k below. c.loop-index.invariant.1 k (omega (arith, c.loop-index-test.false, c.loop-index.auto, below)))

-- one element more is written
pub loop-index-preserved : goal.loop-index-preserved
loop-index-preserved c =
    one_more (bit_at c.args.system.now c.args.first) c.loop-index.out c.loop-index.index (length c.args.out.now)
    c.is_committed.result c.loop-index.invariant.0 (omega (arith, c.loop-index-test.true))
    (c.is_committed.ensures ∙ ap (λ (n : ℕ). bit_at c.args.system.now n c.loop-index.index) c.from.ensures)
    c.loop-index.invariant.1

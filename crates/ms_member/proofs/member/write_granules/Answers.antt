use Rattle.std.proofs.Common.{length, ap, ◌∙◌, ℕ, false, arith}
use Rattle.std.proofs.lemmas.List.FromFn.{fill_by_all}
use Rattle.ms_member.specs.Member.{granule_at}
use Rattle.ms_member.proofs.BitLemmas.{one_more}
use Rattle.ms_member.proofs.member.write_granules.Goals as goal

-- all elements are written
pub returns : goal.returns
returns c =
    fill_by_all (granule_at c.args.held.now.pool c.args.first) c.loop-index.out (length c.args.out.now) false
    c.loop-index.invariant.0 (λ k below. c.loop-index.invariant.1 k (omega (arith, c.loop-index-test.false, c.loop-index.auto, below)))

-- one element more is written
pub loop-index-preserved : goal.loop-index-preserved
loop-index-preserved c =
    one_more (granule_at c.args.held.now.pool c.args.first) c.loop-index.out c.loop-index.index (length c.args.out.now)
    c.is_committed.result c.loop-index.invariant.0 (omega (arith, c.loop-index-test.true))
    (c.is_committed.ensures ∙ ap (λ (n : ℕ). granule_at c.args.held.now.pool n c.loop-index.index) c.from.ensures)
    c.loop-index.invariant.1

use Rattle.std.proofs.Common.{refl, arith}
use Rattle.ms_pool.proofs.lender.Lender.commit_limit.Goals as goal

pub returns-then-need-limit-clause-refusal : goal.returns-then-need-limit-clause-refusal
returns-then-need-limit-clause-refusal c =
    rw (c.committed-committed.ensures.count, c.granule_limit-limit.ensures) refl

pub returns-then-need-limit-clause-met : goal.returns-then-need-limit-clause-met
returns-then-need-limit-clause-met c =
    omega (
      arith,
      c.committed-committed.ensures.count,
      c.granule_limit-limit.ensures,
      c.if-need-limit.true,
      c.requires.kept.nodes.committed,
    )

pub returns-clause-within : goal.returns-clause-within
returns-clause-within c =
    omega (
      arith,
      c.committed-committed.ensures.count,
      c.granule_limit-limit.ensures,
      c.if-need-limit.false,
      c.requires.kept.nodes.committed,
    )

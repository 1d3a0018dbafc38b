use Rattle.std.proofs.Common.{List, ℕ, refl, sym, ap, ◌∙◌, arith}
use Rattle.ms_pool.proofs.loans.NoneMissingLemmas.{with_none_missing}
use Rattle.ms_pool.proofs.lending.commit.Goals as goal

pub returns-then-need-eq0-clause-committed : goal.returns-then-need-eq0-clause-committed
returns-then-need-eq0-clause-committed c =
    let nodes = c.args.nodes.now in
    ap (λ (granules : List ℕ). record nodes { granules = granules })
    (sym (with_none_missing nodes.granules _ _ c.requires.sound.granules
    (sym c.requires.need ∙ c.if-need-eq0.true)))

pub unreachable-requires : goal.unreachable-requires
unreachable-requires c =
    let past =
    rw (
      c.granules_meeting-first.ensures.first,
      c.granules_meeting-first.ensures.count,
    ) at (c.in-Err.ensures.commit_limit.0 refl) in
    omega (arith, past, c.requires.limit)

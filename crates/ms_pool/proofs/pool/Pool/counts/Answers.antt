use Rattle.std.proofs.Common.{◌≡◌, ◌+◌, length, refl, sym, ◌∙◌}
use Rattle.ms_base.specs.declared.kind.Space.TheVariants.{NonClass}
use Rattle.ms_commit.proofs.SpaceLemmas.{are_of_two_spaces}
use Rattle.ms_pool.specs.Keeping.{ledger_of}
use Rattle.ms_pool.proofs.pool.Pool.counts.Goals as goal

-- The granules of both spaces are all of them.
pub returns : goal.returns
returns c =
    let lender = c.self.inside.lender.value in
    let granules : c.committed.result
    ≡ length (ledger_of lender).committed + length (ledger_of lender).class_committed =
    (rw c.deref.ensures at c.committed.ensures.count)
    ∙ sym ((are_of_two_spaces lender.nodes c.self.invariant.kept.nodes).counted NonClass) in
    let words = (rw c.deref.ensures at c.granule.ensures) ∙ c.self.invariant.kept.granule in
    rw (
      ← c.self.view_is,
      granules,
      rw c.deref.ensures at c.granule_limit.ensures,
      words,
      rw c.deref.ensures at c.reserved.ensures.count,
      rw c.deref.ensures at c.node_limit.ensures,
      rw c.deref.ensures at c.class_slots.ensures,
    ) refl

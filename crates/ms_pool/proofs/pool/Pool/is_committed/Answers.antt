use Rattle.std.proofs.Common.{ap, ◌∙◌, ℕ, List}
use Rattle.ms_base.specs.Committed.{is_among}
use Rattle.ms_commit.proofs.SpaceLemmas.{are_of_two_spaces}
use Rattle.ms_pool.proofs.pool.Pool.is_committed.Goals as goal

-- all granules are those of one space and then the other's
pub returns : goal.returns
returns c =
    rw (← c.self.view_is) ((rw c.deref.ensures at c.is_committed.ensures.answer)
    ∙ ap (λ (granules : List ℕ). is_among granules c.args.granule)
    (are_of_two_spaces c.self.inside.lender.value.nodes c.self.invariant.kept.nodes).joined)

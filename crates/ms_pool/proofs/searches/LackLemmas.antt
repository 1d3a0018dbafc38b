-- The granules that a front lacks, counted in the space's own granules or in all.
use Rattle.std.proofs.Common.{◌≡◌, ◌≤◌, ℕ, ◌+◌, ◌-◌, ◌/◌, not, ◌&&◌, length, sym, ap, ◌∙◌, arith}
use Rattle.ms_base.specs.declared.kind.Space.{Space}
use Rattle.ms_base.specs.declared.span.Chunk.{Chunk}
use Rattle.ms_base.specs.Policy.{granule_of, slot_granules}
use Rattle.ms_base.specs.Committed.{is_among}
use Rattle.ms_commit.specs.NumberSet.{count_missing}
use Rattle.ms_commit.specs.Nodes.{is_granule_of, node_granules}
use Rattle.ms_commit.proofs.RangeLemmas.{filter_agree_in, is_among-filter}
use Rattle.ms_pool.specs.declared.lender.Lender.{Lender}
use Rattle.ms_pool.specs.Ledger.{committed_of, state_in}
use Rattle.ms_pool.specs.Keeping.{IsKept, IsRunOf, ledger_of}
use Rattle.ms_pool.specs.Searching.{lacking}
use Rattle.ms_pool.proofs.searches.EnoughLemmas.{of_space_at}
use Rattle.ms_pool.proofs.searches.SlotLoopLemmas.{committed_is}

pub lacks : (space : Space) (lender : Lender) (chunk : Chunk) → IsKept lender → 1 ≤ chunk.front
    → IsRunOf space chunk.start chunk.front
    → count_missing lender.nodes.granules (chunk.start / granule_of lender.policy)
    ((chunk.start + chunk.front - 1) / granule_of lender.policy + 1 - chunk.start / granule_of lender.policy)
    ≡ lacking (state_in space (ledger_of lender)) chunk
unfolding lacking
lacks space lender chunk kept some inside = ap length
    (filter_agree_in (λ k. not (is_among lender.nodes.granules k))
    (λ k. not (is_among (committed_of space (ledger_of lender)) k)) first count
    (λ k low high. ap not
    (sym (ap (λ l. is_among l k) (committed_is space lender)
    ∙ is_among-filter (is_granule_of space (node_granules lender.nodes)) lender.nodes.granules k
    ∙ ap (λ b. b && is_among lender.nodes.granules k)
    (ap (λ (g : ℕ). is_granule_of space (slot_granules g) k) kept.granule
    ∙ of_space_at space lender.policy chunk.start chunk.front k some inside low (omega (arith, low, high)))))))
  where
    first : ℕ
    first = chunk.start / granule_of lender.policy

    count : ℕ
    count = (chunk.start + chunk.front - 1) / granule_of lender.policy + 1 - first

-- The sums over a space are those of its parts.
use Rattle.std.proofs.Common.{◌≡◌, ℕ, List, length, refl, sym, ap, ◌∙◌}
use Rattle.ms_base.specs.declared.kind.Space.{Space}
use Rattle.ms_base.specs.Totals.{capacity_of, free_by_level, fronts_of, lent_by_level, pool_sums}
use Rattle.ms_commit.specs.Nodes.{granules_in}
use Rattle.ms_pool.specs.declared.lender.Lender.{Lender}
use Rattle.ms_pool.specs.Ledger.{held_in, opened_in, state_in}
use Rattle.ms_pool.specs.Keeping.{ledger_of}
use Rattle.ms_pool.proofs.searches.SlotLoopLemmas.{committed_is}

pub sums_are : (space : Space) (lender : Lender) (nodes granules capacity fronts accounts : ℕ) (lent free : List ℕ)
    → nodes ≡ length (state_in space (ledger_of lender)).slots → granules ≡ length (granules_in space lender.nodes)
    → lent ≡ lent_by_level (state_in space (ledger_of lender))
    → free ≡ free_by_level (state_in space (ledger_of lender))
    → capacity ≡ capacity_of (held_in space (ledger_of lender)) → fronts ≡ fronts_of (held_in space (ledger_of lender))
    → accounts ≡ opened_in (ledger_of lender) space
    → record {
      nodes = nodes;
      granules = granules;
      lent = lent;
      free = free;
      capacity = capacity;
      fronts = fronts;
      accounts = accounts;
    }
    ≡ pool_sums (state_in space (ledger_of lender)) (opened_in (ledger_of lender) space)
sums_are space lender nodes granules capacity fronts accounts lent free n g l f c r a =
    rw (n, g ∙ ap length (sym (committed_is space lender)), l, f, c, r, a) refl

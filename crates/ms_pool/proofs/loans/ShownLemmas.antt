-- A lender that shows a ledger once a part was lent. For `Lender::lend`.
use Rattle.std.proofs.Common.{◌≡◌, ℕ, ◌+◌, ◌*◌, ◌-◌, ◌/◌, List, length, sym, ap, subst, ◌∙◌}
use Rattle.std.specs.List.{All}
use Rattle.ms_base.specs.declared.kind.Space.{Space}
use Rattle.ms_base.specs.declared.span.Chunk.{Chunk}
use Rattle.ms_base.specs.Part.{slot_of}
use Rattle.ms_base.specs.Policy.{granule_of}
use Rattle.ms_base.specs.Spaces.{first_class_slot}
use Rattle.ms_commit.specs.Nodes.{NodeLimits, NodesState, AreSound}
use Rattle.ms_commit.specs.Nodes.{with_granules}
use Rattle.ms_buddy.specs.Leaves.{LentLeaf, AreLeaves}
use Rattle.ms_pool.specs.declared.lender.Lender.{Lender}
use Rattle.ms_pool.specs.declared.lent.Lent.{Lent}
use Rattle.ms_pool.specs.Ledger.{Ledger, Loan, with_lent, with_loan, IsSoundLedger}
use Rattle.ms_pool.specs.Keeping.{IsKept, ledger_of, with_reserved, loans_from}
use Rattle.ms_pool.proofs.loans.OpenLemmas.{ReservesOne, reserves_one}
use Rattle.ms_pool.specs.Trees.{TreesState}
use Rattle.ms_pool.specs.Placing.{MayBeLent}
use Rattle.ms_pool.proofs.loans.LentPartLemmas.{built_of, with_front_of, lent_ledger}

-- A lender with other nodes and other trees shows a ledger, and keeps what it kept.
pub record Shows (lender : Lender) (nodes : NodesState) (items : List (List LentLeaf)) (ledger : Ledger) : Type 0 where
  pub after : built_of lender nodes (loans_from 0 items) ≡ ledger
  pub class_slots_are : nodes.class_slots ≡ lender.nodes.class_slots
  pub limits : nodes.limits ≡ lender.nodes.limits

pub kept_where_shown : (lender : Lender) (nodes : NodesState) (trees : TreesState) (ledger : Ledger) → IsKept lender
    → length trees.items ≡ length lender.trees.items
    → All AreLeaves trees.items → AreSound nodes → Shows lender nodes trees.items ledger → IsSoundLedger ledger
    → IsKept (record lender { nodes = nodes; trees = trees })
kept_where_shown lender nodes trees ledger kept count leaves sound_nodes shows sound = record {
  trees = count ∙ kept.trees ∙ ap (λ (n : ℕ). 2 * (first_class_slot + n)) (sym shows.class_slots_are);
  leaves = leaves;
  granule = ap (λ (limits : NodeLimits). limits.granule) shows.limits ∙ kept.granule;
  nodes = sound_nodes;
  sound = subst IsSoundLedger (sym shows.after) sound;
}

-- What is counted is no part of what is kept.
pub kept_however_counted : (lender : Lender) (lent : Lent) → IsKept lender → IsKept (record lender { lent = lent })
kept_however_counted lender lent kept =
    record { trees = kept.trees; leaves = kept.leaves; granule = kept.granule; nodes = kept.nodes; sound = kept.sound }

-- The slot of a chunk is reserved and its front committed: the ledger has the chunk lent.
nodes_are : (lender : Lender) (chunk : Chunk) (mid new : NodesState) (g : ℕ)
    → mid ≡ with_reserved lender.nodes (slot_of chunk.start) → g ≡ granule_of lender.policy
    → new ≡ with_granules mid (chunk.start / g) ((chunk.start + chunk.front - 1) / g + 1 - chunk.start / g)
    → new ≡ with_front_of lender (with_reserved lender.nodes (slot_of chunk.start)) chunk
nodes_are lender chunk mid new g same size made =
    made ∙ ap
    (λ (w : ℕ). with_granules mid (chunk.start / w) ((chunk.start + chunk.front - 1) / w + 1 - chunk.start / w))
    size
    ∙ ap (λ (n : NodesState). with_front_of lender n chunk) same

pub lent_shows : (space : Space) (lender : Lender) (owner : ℕ) (chunk : Chunk) (mid nodes : NodesState)
    (items : List (List LentLeaf)) (g : ℕ) → IsKept lender
    → MayBeLent lender space owner chunk → mid ≡ with_reserved lender.nodes (slot_of chunk.start) → AreSound mid
    → g ≡ granule_of lender.policy
    → nodes ≡ with_granules mid (chunk.start / g) ((chunk.start + chunk.front - 1) / g + 1 - chunk.start / g)
    → AreSound nodes
    → loans_from 0 items ≡ with_loan (record { owner = owner; chunk = chunk }) (loans_from 0 lender.trees.items)
    → Shows lender nodes items (with_lent (ledger_of lender) space owner chunk)
lent_shows space lender owner chunk mid nodes items g kept may same sound_mid size made sound loans = record {
  after = ap (λ (n : NodesState). built_of lender n (loans_from 0 items)) there
      ∙ ap (λ (l : List Loan). built_of lender
      (with_front_of lender (with_reserved lender.nodes (slot_of chunk.start)) chunk) l) loans
      ∙ lent_ledger space lender owner chunk kept (subst AreSound same sound_mid) (subst AreSound there sound)
      may.placed may.some may.within may.slot;
  class_slots_are = ap (λ (n : NodesState). n.class_slots) there ∙ one.class_slots_are;
  limits = ap (λ (n : NodesState). n.limits) there ∙ one.limits;
}
  where
    there : nodes ≡ with_front_of lender (with_reserved lender.nodes (slot_of chunk.start)) chunk
    there = nodes_are lender chunk mid nodes g same size made

    one : ReservesOne lender.nodes (with_reserved lender.nodes (slot_of chunk.start)) (slot_of chunk.start)
    one = reserves_one lender.nodes (slot_of chunk.start)

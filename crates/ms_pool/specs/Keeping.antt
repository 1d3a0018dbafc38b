-- What the code of the pool keeps, and how callers see it.
use Rattle.std.specs.Prelude.{◌≡◌, ℕ, ◌+◌, ◌*◌, ◌<◌, ◌≤◌, ◌⊎◌, cond, true, List, [], ◌∷◌, ◌++◌, length, map}
use Rattle.std.specs.List.{All}
use Rattle.ms_base.specs.declared.kind.Space.{Space}
use Rattle.ms_base.specs.declared.kind.Space.TheVariants.{NonClass, Class}
use Rattle.ms_base.specs.Level.{root_words}
use Rattle.ms_base.specs.Part.{is_reserved, node_words}
use Rattle.ms_base.specs.Policy.{granule_of}
use Rattle.ms_base.specs.Spaces.{first_class_slot}
use Rattle.ms_base.specs.PoolSteps.Pick.{lowest_unreserved}
use Rattle.ms_commit.specs.Nodes.{NodesState, AreSound, all_slots, granules_in, slots_of, with_slot}
use Rattle.ms_buddy.specs.Leaves.{LentLeaf, AreLeaves}
use Rattle.ms_pool.specs.Counting.{AreCounted, counted_in}
use Rattle.ms_pool.specs.Ledger.{Loan, Ledger, IsSoundLedger, held_in}
use Rattle.ms_pool.specs.declared.lender.Lender.{Lender}

-- A lent leaf of the root of that number, as a loan.
abbrev pub loan_at : ℕ → LentLeaf → Loan
loan_at root leaf = record {
  owner = leaf.owner;
  chunk = record { start = leaf.start + root * root_words; level = leaf.level; front = leaf.front };
}

-- The loans of trees, of which the first has the root of that number.
abbrev pub loans_from : ℕ → List (List LentLeaf) → List Loan
loans_from root [] = []
loans_from root (tree ∷ trees) = map (loan_at root) tree ++ loans_from (root + 1) trees

-- What callers see.
abbrev pub ledger_of : Lender → Ledger
ledger_of lender = record {
  loans = loans_from 0 lender.trees.items;
  slots = lender.nodes.slots;
  committed = granules_in NonClass lender.nodes;
  class_committed = granules_in Class lender.nodes;
  given = lender.given;
  opened = lender.opened;
  class_opened = lender.class_opened;
  tallies = record {
    take_commit = lender.counts.take_commit;
    take_reserve = lender.counts.take_reserve;
    grow_commit = lender.counts.grow_commit;
    grow_room = lender.counts.grow_room;
    open_ids = lender.counts.open_ids;
  };
  limits = record {
    nodes = lender.nodes.limits.nodes;
    granules = lender.nodes.limits.granules;
    policy = lender.policy;
    class_nodes = lender.nodes.class_slots;
  };
}

-- There is a tree for each root that may be reserved, the lent leaves are leaves of a root, the
-- granules are the policy's, and what callers see is sound.
pub record IsKept (lender : Lender) : Type 0 where
  pub trees : length lender.trees.items ≡ 2 * (first_class_slot + lender.nodes.class_slots)
  pub leaves : All AreLeaves lender.trees.items
  pub granule : lender.nodes.limits.granule ≡ granule_of lender.policy
  pub nodes : AreSound lender.nodes
  pub sound : IsSoundLedger (ledger_of lender)

-- The chunks that are lent in each space are counted.
abbrev pub IsCounted : Lender → Type 0
IsCounted lender = (space : Space) → AreCounted (held_in space (ledger_of lender)) (counted_in space lender.lent)

-- What is true of every pool's lender.
pub record IsReady (lender : Lender) : Type 0 where
  pub kept : IsKept lender
  pub counted : IsCounted lender

-- So many words from the start on lie in the space.
abbrev pub IsRunOf : Space → ℕ → ℕ → Type 0
IsRunOf NonClass start words = start + words ≤ first_class_slot * node_words
IsRunOf Class start words = first_class_slot * node_words ≤ start

-- The nodes with a slot reserved, if it isn't.
abbrev pub with_reserved : NodesState → ℕ → NodesState
with_reserved nodes slot = cond (is_reserved (all_slots nodes) slot) nodes (with_slot nodes slot)

-- A slot of the space is reserved, or it is the lowest that isn't and one more may be.
abbrev pub IsOpen : Space → NodesState → ℕ → Type 0
IsOpen space nodes slot =
    (is_reserved (slots_of space nodes) slot ≡ true)
    ⊎ ((space ≡ NonClass) × (slot ≡ lowest_unreserved nodes.slots) × (length nodes.slots < nodes.limits.nodes))

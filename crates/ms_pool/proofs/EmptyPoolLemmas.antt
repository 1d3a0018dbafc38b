-- A pool of which nothing was asked yet is sound, and its trees have no leaf.
use Rattle.std.proofs.Common.{◌≡◌, ◌<◌, ◌≤◌, ℕ, zero, suc, ◌+◌, List, [], replicate, refl, sym, ap, ◌∙◌, arith}
use Rattle.std.specs.List.{flat_map}
use Rattle.std.proofs.lemmas.List.Elements.{All-nil, All-from_get_or}
use Rattle.std.proofs.lemmas.List.FromFn.{length-range_with_len, get_or-range_with_len}
use Rattle.ms_base.specs.declared.kind.Space.{Space}
use Rattle.ms_base.specs.declared.kind.Space.TheVariants.{NonClass, Class}
use Rattle.ms_base.specs.declared.policy.Policy.{Policy}
use Rattle.ms_base.specs.declared.policy.Policy.TheVariants.{Balanced, Aggressive, None as Never}
use Rattle.ms_base.specs.declared.span.Chunk.{Chunk}
use Rattle.ms_base.specs.Policy.{granule_of}
use Rattle.ms_base.specs.Part.{IsPart}
use Rattle.ms_base.specs.Front.{HasFront}
use Rattle.ms_base.specs.Held.{AreHeld}
use Rattle.ms_base.specs.Spaces.{IsSlotOf, class_slots}
use Rattle.ms_base.specs.Committed.{committed_with, granules_of}
use Rattle.ms_base.specs.State.{Limits, limits_of}
use Rattle.ms_base.specs.declared.settings.Settings.{Settings}
use Rattle.ms_base.specs.Good.{IsSoundPool}
use Rattle.ms_base.proofs.free.EmptyLemmas.{filter-none}
use Rattle.ms_commit.proofs.SetLemmas.{IsStrictlyIncreasing-range}
use Rattle.ms_commit.specs.Nodes.{IsGranuleSize, NodeLimits, NodesState, AreSound, granules_in, no_nodes}
use Rattle.ms_buddy.specs.Leaves.{LentLeaf}
use Rattle.ms_pool.specs.Ledger.{Loan, Ledger, IsSoundLedger, empty_ledger, state_in}
use Rattle.ms_pool.specs.Tallies.{no_tallies}
use Rattle.ms_pool.specs.Keeping.{loans_from}

-- What callers see of nodes and loans at the start.
abbrev pub seen : NodesState → List Loan → Policy → Ledger
seen nodes loans policy = record {
  loans = loans;
  slots = nodes.slots;
  committed = granules_in NonClass nodes;
  class_committed = granules_in Class nodes;
  given = 0;
  opened = 0;
  class_opened = 0;
  tallies = no_tallies;
  limits = record {
    nodes = nodes.limits.nodes;
    granules = nodes.limits.granules;
    policy = policy;
    class_nodes = nodes.class_slots;
  };
}

pub no_loans : (n first : ℕ) → loans_from first (replicate n []) ≡ []
no_loans zero first = refl
no_loans (suc n) first = no_loans n (first + 1)

none_committed : (policy : Policy) (slots : List ℕ) → [] ≡ committed_with policy [] [] slots
none_committed Balanced slots = sym (filter-none (flat_map (granules_of 8192) slots))
none_committed Aggressive slots = sym (filter-none (flat_map (granules_of 2048) slots))
none_committed Never slots = sym (filter-none (flat_map (granules_of 8192) slots))

none_held : (policy : Policy) (slots : List ℕ) → AreHeld policy slots []
none_held policy slots = record {
  parts = All-nil (λ (chunk : Chunk). IsPart chunk.start chunk.level);
  fronts = All-nil (HasFront policy);
  reserved = refl;
  apart = refl;
}

pub empty_is_sound : (limits : Limits) → 1 ≤ limits.nodes → limits.nodes ≤ 64 → limits.class_nodes ≤ 16
    → IsSoundLedger (empty_ledger limits)
empty_is_sound limits some few class_few = record {
  spaces = spaces;
  order = λ k h. absurd (omega arith);
  owners = All-nil (λ (loan : Loan). (1 ≤ loan.owner) × (loan.owner ≤ 0));
  given = omega arith;
  opened = omega arith;
  nodes = (some, few);
  class_nodes = class_few;
}
  where
    spaces : (space : Space) → IsSoundPool (state_in space (empty_ledger limits))
    spaces NonClass = record {
      held = none_held limits.policy [];
      slots = λ k h. absurd (omega arith);
      below = All-nil (IsSlotOf NonClass);
      committed = none_committed limits.policy [];
      granules = omega arith;
      reserved = omega arith;
    }
    spaces Class = record {
      held = none_held limits.policy (class_slots limits.class_nodes);
      slots = IsStrictlyIncreasing-range 64 limits.class_nodes;
      below = All-from_get_or (IsSlotOf Class) (class_slots limits.class_nodes) 0 (λ i h.
          let at_ =
          get_or-range_with_len 64 limits.class_nodes i 0
          (omega (arith, h, length-range_with_len 64 limits.class_nodes)) in
          (omega (arith, at_), omega (arith, at_, h, class_few, length-range_with_len 64 limits.class_nodes)));
      committed = none_committed limits.policy (class_slots limits.class_nodes);
      granules = omega arith;
      reserved = omega (arith, length-range_with_len 64 limits.class_nodes);
    }

-- What is kept at the start.
pub none_are_sound : (limits : NodeLimits) (class_nodes : ℕ) → class_nodes ≤ 16 → IsGranuleSize limits.granule
    → AreSound (no_nodes limits class_nodes)
none_are_sound limits class_nodes few size = record {
  size = size;
  slots = record { rising = λ k h. absurd (omega arith); below = All-nil (λ (member : ℕ). member < 64) };
  class_slots = few;
  granules = λ k h. absurd (omega arith);
  inside = λ granule there. absurd (cc);
  reserved = omega arith;
  committed = omega arith;
}

pub starts_empty : (settings : Settings) (nodes : NodesState) (trees : List (List LentLeaf)) (count : ℕ)
    → trees ≡ replicate count []
    → nodes ≡ no_nodes
    (record { nodes = settings.nodes; granules = settings.max_granules; granule = granule_of settings.policy })
    settings.class_nodes
    → seen nodes (loans_from 0 trees) settings.policy ≡ empty_ledger (limits_of settings)
starts_empty settings nodes trees count whole fresh =
    ap (λ (n : NodesState). seen n (loans_from 0 trees) settings.policy) fresh
    ∙ ap (λ (loans : List Loan). seen
    (no_nodes
    (record { nodes = settings.nodes; granules = settings.max_granules; granule = granule_of settings.policy })
    settings.class_nodes) loans settings.policy)
    (ap (loans_from 0) whole ∙ no_loans count 0)

-- The nodes: which slots are reserved, and which granules are committed (this project's choice;
-- HotSpot's virtualSpaceNode.hpp and commitLimiter.hpp have the parts).
use Rattle.std.specs.Prelude.{◌≡◌, ℕ, ◌+◌, ◌*◌, ◌/◌, ◌<◌, ◌≤◌, ◌⊎◌, Bool, nat_lt, nat_le, List, [], ◌++◌, length}
use Rattle.std.specs.Prelude.{IsTrue}
use Rattle.std.specs.List.{filter}
use Rattle.std.specs.Ordering.{nat_cmp}
use Rattle.std.specs.BTreeSet.{insert_key}
use Rattle.std.specs.List.Sorted.{IsStrictlyIncreasing}
use Rattle.ms_base.specs.declared.kind.Space.{Space}
use Rattle.ms_base.specs.declared.kind.Space.TheVariants.{NonClass, Class}
use Rattle.ms_base.specs.Policy.{slot_granules}
use Rattle.ms_base.specs.Part.{is_reserved}
use Rattle.ms_base.specs.Spaces.{by_space, first_class_slot, most_slots, class_slots}
use Rattle.ms_base.specs.Committed.{is_among}
use Rattle.ms_commit.specs.NumberSet.{with_range, without_range, without_number, count_missing, IsSetBelow}

-- A granule has 8192 or 2048 words.
abbrev pub IsGranuleSize : ℕ → Type 0
IsGranuleSize words = (words ≡ 8192) ⊎ (words ≡ 2048)

-- The limits: how many slots may be reserved besides those of the class space, how many granules
-- committed in both spaces together, and the words of a granule.
pub record NodeLimits : Type 0 where
  pub nodes : ℕ
  pub granules : ℕ
  pub granule : ℕ

-- The nodes have a set of reserved slots, those below the class space's; how many slots the class
-- space has, which stay reserved; a set of committed granules of both spaces; and the limits. Both
-- sets are in rising order.
pub record NodesState : Type 0 where
  pub slots : List ℕ
  pub class_slots : ℕ
  pub granules : List ℕ
  pub limits : NodeLimits

-- At the start the slots of the class space are reserved, and nothing is committed.
abbrev pub no_nodes : NodeLimits → ℕ → NodesState
no_nodes limits class_nodes = record { slots = []; class_slots = class_nodes; granules = []; limits = limits }

-- How many granules a node has, and so a slot.
abbrev pub node_granules : NodesState → ℕ
node_granules nodes = slot_granules nodes.limits.granule

-- The reserved slots of a space, and those of both.
abbrev pub slots_of : Space → NodesState → List ℕ
slots_of space nodes = by_space space nodes.slots (class_slots nodes.class_slots)

abbrev pub all_slots : NodesState → List ℕ
all_slots nodes = slots_of NonClass nodes ++ slots_of Class nodes

-- Where a node has so many granules, the one of that number lies in the space.
abbrev pub is_granule_of : Space → ℕ → ℕ → Bool
is_granule_of NonClass each number = nat_lt number (first_class_slot * each)
is_granule_of Class each number = nat_le (first_class_slot * each) number

-- The committed granules of a space.
abbrev pub granules_in : Space → NodesState → List ℕ
granules_in space nodes = filter (is_granule_of space (node_granules nodes)) nodes.granules

-- All granules of a range lie in the space.
abbrev pub AreOfSpace : Space → NodesState → ℕ → ℕ → Type 0
AreOfSpace space nodes first count =
    (number : ℕ) → first ≤ number → number < first + count → IsTrue (is_granule_of space (node_granules nodes) number)

-- The granule lies in a reserved slot.
abbrev pub IsInReserved : NodesState → ℕ → Type 0
IsInReserved nodes granule = IsTrue (is_reserved (all_slots nodes) (granule / node_granules nodes))

-- All granules of a range lie in reserved slots.
abbrev pub AreInReserved : NodesState → ℕ → ℕ → Type 0
AreInReserved nodes first count =
    (granule : ℕ) → first ≤ granule → granule < first + count → IsInReserved nodes granule

-- The nodes with a slot reserved.
abbrev pub with_slot : NodesState → ℕ → NodesState
with_slot nodes slot = record nodes { slots = insert_key nat_cmp nodes.slots slot }

-- The nodes without a slot and its granules.
abbrev pub without_slot : NodesState → ℕ → NodesState
without_slot nodes slot = record nodes {
  slots = without_number nodes.slots slot;
  granules = without_range nodes.granules (slot * node_granules nodes) (node_granules nodes);
}

-- The nodes with a range of granules committed.
abbrev pub with_granules : NodesState → ℕ → ℕ → NodesState
with_granules nodes first count = record nodes { granules = with_range nodes.granules first count }

-- The nodes with a range of granules uncommitted.
abbrev pub without_granules : NodesState → ℕ → ℕ → NodesState
without_granules nodes first count =
    record nodes { granules = without_range nodes.granules first count }

-- How many granules there would be with the range committed.
abbrev pub granules_with : NodesState → ℕ → ℕ → ℕ
granules_with nodes first count = length nodes.granules + count_missing nodes.granules first count

-- The nodes are sound: slots are some of 0 to 63 in rising order, and those of the class space as
-- many as it may have; granules have one of the sizes, rise, and each lies in a reserved slot; and
-- both limits are kept.
pub record AreSound (nodes : NodesState) : Type 0 where
  pub size : IsGranuleSize nodes.limits.granule
  pub slots : IsSetBelow first_class_slot nodes.slots
  pub class_slots : nodes.class_slots ≤ most_slots Class
  pub granules : IsStrictlyIncreasing nodes.granules
  pub inside : (granule : ℕ) → IsTrue (is_among nodes.granules granule) → IsInReserved nodes granule
  pub reserved : length nodes.slots ≤ nodes.limits.nodes
  pub committed : length nodes.granules ≤ nodes.limits.granules

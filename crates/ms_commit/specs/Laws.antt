-- That the words about sets mean what they say, by the members; how a set of granules is that of
-- the model; and what becomes of the granules of either space.
use Rattle.std.specs.Prelude.{◌≡◌, ℕ, ◌+◌, ◌*◌, ◌/◌, ◌<◌, not, ◌==◌, ◌&&◌, ◌||◌, List, ◌++◌, length, IsTrue}
use Rattle.std.specs.Ordering.{nat_cmp}
use Rattle.std.specs.BTreeSet.{insert_key}
use Rattle.std.specs.List.Sorted.{IsStrictlyIncreasing}
use Rattle.ms_base.specs.declared.kind.Space.{Space}
use Rattle.ms_base.specs.declared.kind.Space.TheVariants.{NonClass, Class}
use Rattle.ms_base.specs.declared.policy.Policy.{Policy}
use Rattle.ms_base.specs.declared.span.Chunk.{Chunk}
use Rattle.ms_base.specs.Policy.{granule_of, slot_granules}
use Rattle.ms_base.specs.Part.{is_reserved}
use Rattle.ms_base.specs.Spaces.{other_space, first_class_slot}
use Rattle.ms_base.specs.Committed.{is_among, is_committed_now, committed_with}
use Rattle.ms_commit.specs.NumberSet.{is_in_range, with_range, without_range, without_number, count_missing}
use Rattle.ms_commit.specs.Nodes.{NodesState, node_granules, slots_of, is_granule_of, granules_in, AreOfSpace, AreSound}
use Rattle.ms_commit.specs.Nodes.{with_granules, without_granules, without_slot}

-- A number is a member after each change exactly where it was one and stays, or is new.
pub record AreSetWords (members : List ℕ) (first count number : ℕ) : Type 0 where
  pub range_added : is_among (with_range members first count) number
      ≡ (is_among members number || is_in_range first count number)
  pub range_out : is_among (without_range members first count) number
      ≡ (is_among members number && not (is_in_range first count number))
  pub number_added : is_among (insert_key nat_cmp members first) number
      ≡ (is_among members number || (first == number))
  pub number_out : is_among (without_number members first) number
      ≡ (is_among members number && not (number == first))

abbrev pub ChangesAreByMembers : Type 0
ChangesAreByMembers =
    (members : List ℕ) (first count number : ℕ) → AreSetWords members first count number

-- Two sets in rising order with the same members are one list.
abbrev pub SetsAreTheirMembers : Type 0
SetsAreTheirMembers =
    (one other : List ℕ) → IsStrictlyIncreasing one → IsStrictlyIncreasing other
    → ((number : ℕ) → is_among one number ≡ is_among other number) → one ≡ other

-- A set of granules in rising order is the model's committed granules of some slots where its
-- members are those that are committed now and lie in one of these slots.
abbrev pub MembersAreCommitted : Type 0
MembersAreCommitted =
    (policy : Policy) (before : List ℕ) (held : List Chunk) (slots members : List ℕ)
    → IsStrictlyIncreasing slots → IsStrictlyIncreasing members
    → ((k : ℕ) → is_among members k
    ≡ (is_committed_now policy before held k && is_reserved slots (k / slot_granules (granule_of policy))))
    → members ≡ committed_with policy before held slots

-- The granules of one space and then of the other are all of them; each space's are those that lie
-- in it, and lie in its reserved slots; and both are as many together as all.
pub record AreOfTwoSpaces (nodes : NodesState) : Type 0 where
  pub joined : nodes.granules ≡ granules_in NonClass nodes ++ granules_in Class nodes
  pub rising : (space : Space) → IsStrictlyIncreasing (granules_in space nodes)
  pub members : (space : Space) (k : ℕ)
      → is_among (granules_in space nodes) k
      ≡ (is_granule_of space (node_granules nodes) k && is_among nodes.granules k)
  pub reserved : (space : Space) (k : ℕ) → IsTrue (is_among (granules_in space nodes) k)
      → IsTrue (is_reserved (slots_of space nodes) (k / node_granules nodes))
  pub counted : (space : Space)
      → length (granules_in space nodes) + length (granules_in (other_space space) nodes) ≡ length nodes.granules

abbrev pub GranulesAreOfTwoSpaces : Type 0
GranulesAreOfTwoSpaces = (nodes : NodesState) → AreSound nodes → AreOfTwoSpaces nodes

-- The granules of a space of sound nodes are the model's where its members are those that are
-- committed now and lie in a reserved slot of the space.
abbrev pub SpacesAreCommitted : Type 0
SpacesAreCommitted =
    (policy : Policy) (space : Space) (nodes : NodesState) (before : List ℕ) (held : List Chunk) → AreSound nodes
    → nodes.limits.granule ≡ granule_of policy
    → ((k : ℕ) → is_among (granules_in space nodes) k
    ≡ (is_committed_now policy before held k && is_reserved (slots_of space nodes) (k / node_granules nodes)))
    → granules_in space nodes ≡ committed_with policy before held (slots_of space nodes)

-- A range of granules that lies in a space comes to the space's granules, or goes from them; the
-- other space's stay. Those of the range that are missing are missing in the space.
pub record ChangeTheirSpace (nodes : NodesState) (space : Space) (first count : ℕ) : Type 0 where
  pub added : granules_in space (with_granules nodes first count) ≡ with_range (granules_in space nodes) first count
  pub added_other : granules_in (other_space space) (with_granules nodes first count)
      ≡ granules_in (other_space space) nodes
  pub out : granules_in space (without_granules nodes first count) ≡ without_range (granules_in space nodes) first count
  pub out_other : granules_in (other_space space) (without_granules nodes first count)
      ≡ granules_in (other_space space) nodes
  pub missing : count_missing nodes.granules first count ≡ count_missing (granules_in space nodes) first count

abbrev pub RangesChangeTheirSpace : Type 0
RangesChangeTheirSpace =
    (nodes : NodesState) (space : Space) (first count : ℕ) → AreSound nodes → AreOfSpace space nodes first count
    → ChangeTheirSpace nodes space first count

-- A slot that is unreserved goes with its granules, and the class space's stay.
pub record LeavesWithItsGranules (nodes : NodesState) (slot : ℕ) : Type 0 where
  pub out : granules_in NonClass (without_slot nodes slot)
      ≡ without_range (granules_in NonClass nodes) (slot * node_granules nodes) (node_granules nodes)
  pub class_stays : granules_in Class (without_slot nodes slot) ≡ granules_in Class nodes

abbrev pub SlotsLeaveWithTheirGranules : Type 0
SlotsLeaveWithTheirGranules =
    (nodes : NodesState) (slot : ℕ) → slot < first_class_slot → LeavesWithItsGranules nodes slot

-- What the code of `Nodes` keeps beside the sets, and what holds of it.
use Rattle.std.specs.Prelude.{◌≡◌, ◌<◌, ◌≤◌, length}
use Rattle.ms_base.specs.Policy.{slot_granules}
use Rattle.ms_commit.specs.declared.nodes.Nodes.TheInside.{Inside}
use Rattle.ms_commit.specs.Nodes.{NodesState, AreSound}

-- The sets, the class space's number of slots and the limits are what callers see.
abbrev pub state_of : Inside → NodesState
state_of kept = record {
  slots = kept.slots;
  class_slots = kept.class_slots;
  granules = kept.granules;
  limits = record {
    nodes = kept.node_limit;
    granules = kept.granule_limit;
    granule = kept.granule;
  };
}

-- The counts are those of the sets, a slot has as many granules as fit into a node, and at most
-- as many as the mask has bits for.
pub record AreKept (kept : Inside) : Type 0 where
  pub sound : AreSound (state_of kept)
  pub reserved : kept.reserved ≡ length kept.slots
  pub committed : kept.committed ≡ length kept.granules
  pub nodes : kept.node_limit ≤ 64
  pub slot_is : kept.slot_granules ≡ slot_granules kept.granule
  pub slot_some : 0 < kept.slot_granules
  pub slot_few : kept.slot_granules ≤ 512

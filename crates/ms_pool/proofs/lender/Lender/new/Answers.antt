use Rattle.std.proofs.Common.{◌≡◌, ◌+◌, ◌*◌, ℕ, replicate, [], length, ap, sym, subst, ◌∙◌}
use Rattle.std.proofs.lemmas.List.{length-replicate}
use Rattle.std.proofs.lemmas.List.Elements.{All-same, All-replicate}
use Rattle.ms_base.specs.Policy.{granule_of}
use Rattle.ms_base.specs.State.{limits_of}
use Rattle.ms_buddy.specs.Leaves.{AreLeaves}
use Rattle.ms_commit.specs.Nodes.{NodesState, AreSound, no_nodes}
use Rattle.ms_commit.proofs.ModelLemmas.{granule_is_size}
use Rattle.ms_pool.specs.Counting.{AreCounted, counted_in}
use Rattle.ms_pool.specs.Ledger.{Ledger, IsSoundLedger, held_in}
use Rattle.ms_pool.proofs.EmptyPoolLemmas.{empty_is_sound, none_are_sound, starts_empty}
use Rattle.ms_pool.proofs.lender.Lender.new.Goals as goal

pub returns-clause-empty : goal.returns-clause-empty
returns-clause-empty c =
    let s = c.args.settings in
    let whole : c.in_ok-trees.trees.items ≡ replicate (2 * (64 + s.class_nodes)) [] = c.in_ok-trees.ensures in
    let fresh : c.new.result
    ≡ no_nodes (record { nodes = s.nodes; granules = s.max_granules; granule = granule_of s.policy })
    s.class_nodes =
    c.new.ensures
    ∙ ap (λ (g : ℕ). no_nodes (record { nodes = s.nodes; granules = s.max_granules; granule = g }) s.class_nodes)
    c.granule.ensures in
    starts_empty s c.new.result c.in_ok-trees.trees.items (2 * (64 + s.class_nodes)) whole fresh

pub returns-clause-kept : goal.returns-clause-kept
returns-clause-kept c =
    let s = c.args.settings in
    let whole : c.in_ok-trees.trees.items ≡ replicate (2 * (64 + s.class_nodes)) [] = c.in_ok-trees.ensures in
    let fresh : c.new.result
    ≡ no_nodes (record { nodes = s.nodes; granules = s.max_granules; granule = granule_of s.policy })
    s.class_nodes =
    c.new.ensures
    ∙ ap (λ (g : ℕ). no_nodes (record { nodes = s.nodes; granules = s.max_granules; granule = g }) s.class_nodes)
    c.granule.ensures in
    let leaves : AreLeaves [] = record { parts = tt; in_root = tt; fronts = tt; in_order = tt } in
    record {
      trees = ap length whole ∙ length-replicate (2 * (64 + s.class_nodes)) []
          ∙ ap (λ (nodes : NodesState). 2 * (64 + nodes.class_slots)) (sym fresh);
      leaves = All-same AreLeaves c.in_ok-trees.trees.items (replicate (2 * (64 + s.class_nodes)) []) whole
          (All-replicate AreLeaves (2 * (64 + s.class_nodes)) [] leaves);
      granule = ap (λ (nodes : NodesState). nodes.limits.granule) fresh;
      nodes = subst AreSound (sym fresh)
          (none_are_sound (record { nodes = s.nodes; granules = s.max_granules; granule = granule_of s.policy })
          s.class_nodes s.class_nodes_few (granule_is_size s.policy));
      sound = subst IsSoundLedger
          (sym (starts_empty s c.new.result c.in_ok-trees.trees.items (2 * (64 + s.class_nodes)) whole fresh))
          (empty_is_sound (limits_of s) s.nodes_some s.nodes_few s.class_nodes_few);
    }

pub returns-clause-counted : goal.returns-clause-counted
returns-clause-counted c = λ space.
    subst (λ (ledger : Ledger). AreCounted (held_in space ledger) (counted_in space c.none.result))
    (sym (returns-clause-empty c)) (c.none.ensures space)

-- A lender that has dropped the nodes that hold no chunk up to a slot. For `Lender::purge`.
use Rattle.std.proofs.Common.{◌≡◌, ◌<◌, ◌≤◌, ℕ, ◌+◌, ◌*◌, false, List}
use Rattle.std.proofs.Common.{length, sym, ap, subst, ◌∙◌}
use Rattle.std.specs.List.{All}
use Rattle.ms_base.specs.declared.kind.Space.TheVariants.{NonClass}
use Rattle.ms_base.specs.Part.{is_reserved}
use Rattle.ms_base.specs.Policy.{granule_of}
use Rattle.ms_base.specs.Held.{has_chunk_in}
use Rattle.ms_commit.specs.Nodes.{without_slot, NodeLimits, AreSound}
use Rattle.ms_buddy.specs.Leaves.{LentLeaf, AreLeaves}
use Rattle.ms_pool.specs.declared.lender.Lender.{Lender}
use Rattle.ms_pool.specs.Ledger.{Ledger, IsSoundLedger, held_in, purged}
use Rattle.ms_pool.specs.Keeping.{ledger_of, IsKept}
use Rattle.ms_pool.proofs.ledger.PurgeLemmas.{purged_is_sound}
use Rattle.ms_pool.proofs.PurgingLemmas.{purged_to, purged_at_last, skips_to, drops}

-- The slots below one were looked at, and nothing but the nodes has changed.
pub record IsPurgedTo (old mid : Lender) (at_ : ℕ) : Type 0 where
  pub trees : mid.trees.items ≡ old.trees.items
  pub lent : mid.lent ≡ old.lent
  pub limits : mid.nodes.limits ≡ old.nodes.limits
  pub policy : mid.policy ≡ old.policy
  pub purged : ledger_of mid ≡ purged_to at_ (ledger_of old)

pub skipped_to : (old mid : Lender) (from to : ℕ) → from ≤ to → IsPurgedTo old mid from
    → ((k : ℕ) → from ≤ k → k < to → is_reserved mid.nodes.slots k ≡ false) → IsPurgedTo old mid to
skipped_to old mid from to up before none =
    record {
      trees = before.trees;
      lent = before.lent;
      limits = before.limits;
      policy = before.policy;
      purged = skips_to (ledger_of old) (ledger_of mid) from to up before.purged none;
    }

pub passes : (old mid : Lender) (at_ : ℕ) → IsPurgedTo old mid at_ → ledger_of mid ≡ purged_to (at_ + 1) (ledger_of old)
    → IsPurgedTo old mid (at_ + 1)
passes old mid at_ before purged =
    record {
      trees = before.trees;
      lent = before.lent;
      limits = before.limits;
      policy = before.policy;
      purged = purged;
    }

pub drops_next : (old mid new : Lender) (at_ : ℕ) → IsKept old → IsPurgedTo old mid at_ → at_ < 64
    → new ≡ record mid { nodes = without_slot mid.nodes at_ }
    → has_chunk_in (held_in NonClass (ledger_of mid)) at_ ≡ false → IsPurgedTo old new (at_ + 1)
drops_next old mid new at_ kept before low is none =
    subst (λ (l : Lender). IsPurgedTo old l (at_ + 1)) (sym is) (record {
      trees = before.trees;
      lent = before.lent;
      limits = before.limits;
      policy = before.policy;
      purged = drops (ledger_of old) mid at_ kept.sound low
          (ap (λ (l : NodeLimits). l.granule) before.limits ∙ kept.granule) before.purged none;
    })

pub kept_once_purged : (old mid : Lender) (at_ : ℕ) → IsKept old → IsPurgedTo old mid at_ → at_ ≡ 64
    → AreSound mid.nodes → IsKept mid
kept_once_purged old mid at_ kept before end sound = record {
  trees = ap (λ (trees : List (List LentLeaf)). length trees) before.trees ∙ kept.trees
      ∙ sym (ap (λ (l : Ledger). 2 * (64 + l.limits.class_nodes)) last);
  leaves = subst (All AreLeaves) (sym before.trees) kept.leaves;
  granule = ap (λ (l : NodeLimits). l.granule) before.limits ∙ kept.granule
      ∙ sym (ap (λ (l : Ledger). granule_of l.limits.policy) last);
  nodes = sound;
  sound = subst IsSoundLedger (sym last) (purged_is_sound (ledger_of old) kept.sound);
}
  where
    last : ledger_of mid ≡ purged (ledger_of old)
    last = purged_at_last (ledger_of old) (ledger_of mid) at_ kept.sound end before.purged

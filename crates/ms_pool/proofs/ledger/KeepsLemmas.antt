-- What a call leaves as it was: all but a tally, or but an owner's loans; so who is served still.
use Rattle.std.proofs.Common.{◌≡◌, ◌≢◌, ◌+◌, ◌^◌, ◌<◌, ◌≤◌, ℕ, List, refl, sym, subst, arith}
use Rattle.std.specs.List.Sorted.{IsPermutation}
use Rattle.ms_base.specs.declared.span.Chunk.{Chunk}
use Rattle.ms_pool.specs.Account.{AccountState}
use Rattle.ms_pool.specs.Tallies.{Tallies}
use Rattle.ms_pool.specs.Ledger.{Ledger, Serves, chunks_of, opened_in}
use Rattle.ms_pool.specs.Calls.{tallied}
use Rattle.ms_pool.specs.Source.{LeavesRest}
use Rattle.ms_pool.specs.declared.lender.Counts.{Counts}
use Rattle.ms_pool.specs.declared.lender.Lender.{Lender}
use Rattle.ms_pool.specs.Keeping.{IsKept}
use Rattle.ms_pool.proofs.ledger.LedgerOpenLemmas.{tallied_serves}

-- Nothing changes but a tally.
pub record RaisesTally (old new : Ledger) : Type 0 where
  pub tallies : Tallies
  pub is : new ≡ tallied old tallies

-- Nothing changes but the loans of an owner, slots, granules and tallies.
pub record Keeps (owner : ℕ) (old new : Ledger) : Type 0 where
  pub others : (other : ℕ) → other ≢ owner → chunks_of new other ≡ chunks_of old other
  pub given : new.given ≡ old.given
  pub opened : opened_in new ≡ opened_in old
  pub limits : new.limits ≡ old.limits

pub keeps_where_tallied : (owner : ℕ) (old new : Ledger) → RaisesTally old new → Keeps owner old new
keeps_where_tallied owner old new raises =
    subst (Keeps owner old) (sym raises.is)
    (record { others = λ other differs. refl; given = refl; opened = refl; limits = refl })

pub serves_where_tallied : (old new : Ledger) (account : AccountState) → RaisesTally old new → Serves old account
    → Serves new account
serves_where_tallied old new account raises served =
    subst (λ (l : Ledger). Serves l account) (sym raises.is) (tallied_serves old raises.tallies account served)

pub keeps_serves : (owner : ℕ) (old new : Ledger) (other : AccountState) → Keeps owner old new → other.owner ≢ owner
    → Serves old other
    → Serves new other
keeps_serves owner old new other keeps differs served = record {
  some = served.some;
  given = subst (λ (n : ℕ). other.owner ≤ n) (sym keeps.given) served.given;
  chunks = subst (λ (l : List Chunk). IsPermutation l other.chunks) (sym (keeps.others other.owner differs))
      served.chunks;
}

-- So a call that keeps all but an owner's loans leaves the rest of the pool.
pub keeps_rest : (owner : ℕ) (old new : Ledger) → Keeps owner old new
    → LeavesRest Serves opened_in (λ (ledger : Ledger). ledger.limits) owner old new
keeps_rest owner old new keeps = record {
  others = λ other differs served. keeps_serves owner old new other keeps differs served;
  counted = keeps.opened;
  limits_stay = keeps.limits;
}

-- What is kept is kept however a refusal is told.
pub kept_however_told : (lender : Lender) (counts : Counts) → IsKept lender → IsKept (record lender { counts = counts })
kept_however_told lender counts kept =
    let sound = kept.sound in
    record {
      trees = kept.trees;
      leaves = kept.leaves;
      granule = kept.granule;
      nodes = kept.nodes;
      sound = record {
        spaces = sound.spaces;
        order = sound.order;
        owners = sound.owners;
        given = sound.given;
        opened = sound.opened;
        nodes = sound.nodes;
        class_nodes = sound.class_nodes;
      };
    }

-- What is kept is kept with one account more.
pub kept_where_opened : (lender : Lender) (opened class_opened : ℕ) → IsKept lender → lender.given + 1 < 2 ^ 32
    → opened + class_opened ≡ lender.opened + lender.class_opened + 1
    → IsKept (record lender { given = lender.given + 1; opened = opened; class_opened = class_opened })
kept_where_opened lender opened class_opened kept left one_more =
    let sound = kept.sound in
    record {
      trees = kept.trees;
      leaves = kept.leaves;
      granule = kept.granule;
      nodes = kept.nodes;
      sound = record {
        spaces = sound.spaces;
        order = sound.order;
        owners = λ k d there. ((sound.owners k d there).0, omega (arith, (sound.owners k d there).1));
        given = left;
        opened = omega (arith, sound.opened, one_more);
        nodes = sound.nodes;
        class_nodes = sound.class_nodes;
      };
    }

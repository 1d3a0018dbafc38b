-- Pool and loaders after a call for one account that changes its chunks: they belong together, and
-- their machine's granules follow. For TakeCallLemmas and GrowCallLemmas.
use Rattle.std.proofs.Common.{◌≡◌, ℕ, Some, List, refl, sym, ap, subst}
use Rattle.std.specs.List.{All}
use Rattle.std.specs.List.Sorted.{IsPermutation}
use Rattle.ms_base.specs.declared.kind.Space.{Space}
use Rattle.ms_base.specs.declared.kind.Space.TheVariants.{NonClass, Class}
use Rattle.ms_base.specs.declared.span.Chunk.{Chunk}
use Rattle.ms_base.specs.Spaces.{other_space}
use Rattle.ms_base.specs.Names.{named, with_changed}
use Rattle.ms_base.specs.State.{ArenaState, arena_of, chunks_held}
use Rattle.ms_base.specs.State.{recommitted as machine_recommitted}
use Rattle.ms_base.specs.Good.{IsSoundLoader}
use Rattle.ms_base.proofs.machine.GoodLemmas.{each_space}
use Rattle.ms_base.proofs.events.GrownEventLemmas.{same_arena}
use Rattle.ms_base.proofs.arena.BlockLemmas.{arena_there, arena_elsewhere}
use Rattle.ms_pool.specs.Account.{AccountState, AreChunks}
use Rattle.ms_pool.specs.Ledger.{Loan, Ledger, Serves, IsSoundLedger, held_in, recommitted}
use Rattle.ms_pool.proofs.ledger.KeepsLemmas.{Keeps, keeps_serves}
use Rattle.ms_loader.specs.Loader.{LoaderView, account_in, owner_in, with_state, IsSoundView}
use Rattle.ms_loaders.specs.System.{states_of, owners_of, machine_of, AreTogether}
use Rattle.ms_loaders.specs.CallEvents.{with_chunks}
use Rattle.ms_loaders.proofs.sums.FitLemmas.{HasOwner, fits, recommitted_machine}
use Rattle.ms_loaders.proofs.steps.ServedLemmas.{KeepsOther}
use Rattle.ms_loaders.proofs.steps.StillTogetherLemmas.{own_sound, together_still}
use Rattle.ms_loaders.proofs.steps.CallLemmas.{same_loaders}

-- The account has the chunks, and the loader's other arena stays.
pub account_with : (space : Space) (loader : LoaderView) (chunks : List Chunk)
    → account_in space (with_chunks space loader chunks) ≡ record (account_in space loader) { chunks = chunks }
account_with space loader chunks =
    ap (λ (a : ArenaState). record (account_in space loader) { chunks = a.chunks })
    (arena_there space loader.state (record (arena_of space loader.state) { chunks = chunks }))

keeps_other : (space : Space) (loader : LoaderView) (chunks : List Chunk)
    → KeepsOther space loader (with_chunks space loader chunks)
keeps_other space loader chunks = record {
  owner = refl;
  class_owner = refl;
  elsewhere = ap (λ (a : ArenaState). a.chunks)
      (arena_elsewhere space loader.state (record (arena_of space loader.state) { chunks = chunks }));
}

-- A loader with its own chunks is the same, and so are all loaders.
pub same_with : (space : Space) (loaders : List (ℕ × LoaderView)) (name : ℕ) (loader : LoaderView)
    → named loaders name ≡ Some loader
    → with_changed loaders name (with_chunks space loader (arena_of space loader.state).chunks) ≡ loaders
same_with space loaders name loader found =
    same_loaders loaders name loader (with_chunks space loader (arena_of space loader.state).chunks) found
    (ap (with_state loader) (same_arena space loader.state))

-- What a call leaves of a pool for a loader whose chunks in a space it changes.
pub record LeavesChanged (space : Space) (old new : Ledger) (loaders : List (ℕ × LoaderView)) (loader : LoaderView)
    (chunks : List Chunk) : Type 0 where
  pub own : Serves new (record (account_in space loader) { chunks = chunks })
  pub keeps : Keeps (owner_in space loader) old new
  pub no_other : All (λ (loan : Loan). HasOwner (owners_of loaders) loan) new.loans
  pub ledger_sound : IsSoundLedger new
  pub sound : IsSoundLoader (with_chunks space loader chunks).state
  pub chunks_sound : AreChunks space chunks

module _ (space : Space) (old new : Ledger) (loaders : List (ℕ × LoaderView)) (name : ℕ) (loader : LoaderView)
    (chunks : List Chunk) (found : named loaders name ≡ Some loader) (its : AreTogether old loaders) where
  abbrev is : LoaderView
  is = with_chunks space loader chunks

  view_is_sound : LeavesChanged space old new loaders loader chunks → IsSoundView is
  view_is_sound leaves = record {
    sound = leaves.sound;
    chunks = each_space (λ (one : Space). AreChunks one (arena_of one is.state).chunks) space
        (subst (λ (a : AccountState). AreChunks space a.chunks) (sym (account_with space loader chunks))
        leaves.chunks_sound)
        (subst (AreChunks (other_space space)) (sym (keeps_other space loader chunks).elsewhere)
        ((own_sound old loaders name loader found its).chunks (other_space space)));
  }

  pub together_changed : LeavesChanged space old new loaders loader chunks
      → AreTogether new (with_changed loaders name is)
  together_changed leaves =
      together_still space old new loaders name loader is found (keeps_other space loader chunks)
      (subst (Serves new) (sym (account_with space loader chunks)) leaves.own)
      (λ other differs served. keeps_serves (owner_in space loader) old new other leaves.keeps differs served)
      leaves.no_other leaves.keeps.opened leaves.ledger_sound (view_is_sound leaves) its

-- The machine of a pool whose granules follow is the one whose granules do.
pub machine_follows : (mid : Ledger) (loaders : List (ℕ × LoaderView)) → AreTogether (recommitted mid) loaders
    → machine_of (recommitted mid) loaders ≡ machine_recommitted (machine_of mid loaders)
machine_follows mid loaders its =
    recommitted_machine mid loaders
    (each (λ (space : Space). IsPermutation (held_in space mid) (chunks_held space (states_of loaders)))
    (fits (recommitted mid) loaders its.loaders_sound its.served NonClass)
    (fits (recommitted mid) loaders its.loaders_sound its.served Class))
  where
    each : (P : Space → Type 0) → P NonClass → P Class → (space : Space) → P space
    each P first second NonClass = first
    each P first second Class = second

-- Where a call of the pool raises a tally alone, pool and loaders stay together.
use Rattle.std.proofs.Common.{◌≡◌, ℕ, List, refl, sym, subst}
use Rattle.ms_base.specs.declared.kind.Space.{Space}
use Rattle.ms_base.specs.declared.kind.Space.TheVariants.{NonClass, Class}
use Rattle.ms_base.specs.Good.{IsSoundPool}
use Rattle.ms_pool.specs.Tallies.{Tallies}
use Rattle.ms_pool.specs.Ledger.{Ledger, IsSoundLedger, state_in}
use Rattle.ms_pool.specs.Calls.{tallied}
use Rattle.ms_loader.specs.Loader.{LoaderView}
use Rattle.ms_loaders.specs.System.{AreTogether}
use Rattle.ms_loaders.proofs.steps.PurgeStepLemmas.{together_alike}

-- The ledger is sound still.
sound_tallied : (old : Ledger) (tallies : Tallies) → IsSoundLedger old → IsSoundLedger (tallied old tallies)
sound_tallied old tallies sound = record {
  spaces = each;
  order = sound.order;
  owners = sound.owners;
  given = sound.given;
  opened = sound.opened;
  nodes = sound.nodes;
  class_nodes = sound.class_nodes;
}
  where
    each : (space : Space) → IsSoundPool (state_in space (tallied old tallies))
    each NonClass = sound.spaces NonClass
    each Class = sound.spaces Class

-- And it serves the loaders as before.
pub together_tallied : (old new : Ledger) (loaders : List (ℕ × LoaderView)) (tallies : Tallies)
    → new ≡ tallied old tallies → AreTogether old loaders → AreTogether new loaders
together_tallied old new loaders tallies is its =
    subst (λ (l : Ledger). AreTogether l loaders) (sym is)
    (together_alike old (tallied old tallies) loaders refl refl refl refl (sound_tallied old tallies its.ledger_sound) its)

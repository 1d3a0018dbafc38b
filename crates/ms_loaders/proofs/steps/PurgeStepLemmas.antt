-- Pool and loaders stay together where the pool's loans and counts stay, and where nodes are purged.
use Rattle.std.proofs.Common.{◌≡◌, ℕ, cond, List, [], ◌∷◌}
use Rattle.std.proofs.Common.{refl, sym, ap, ◌∙◌, subst, arith}
use Rattle.std.specs.Prelude.{◌==◌}
use Rattle.std.specs.List.{All, filter}
use Rattle.std.proofs.lemmas.List.Elements.{recursion_from_All, All-from_recursion}
use Rattle.ms_base.specs.declared.kind.Space.TheVariants.{NonClass}
use Rattle.ms_base.specs.Part.{slot_of}
use Rattle.ms_base.specs.Held.{has_chunk_in}
use Rattle.ms_base.specs.State.{chunks_held, recommitted as machine_recommitted}
use Rattle.ms_base.specs.Good.{IsGood}
use Rattle.ms_base.specs.Transition.{purged as machine_purged}
use Rattle.ms_base.proofs.free.AlikeLemmas.{permuted_are_alike}
use Rattle.ms_pool.specs.Ledger.{Ledger, Serves, IsSoundLedger, held_in, purged}
use Rattle.ms_loader.specs.Loader.{LoaderView}
use Rattle.ms_loaders.specs.System.{states_of, accounts_of, owners_of, machine_of, AreTogether}
use Rattle.ms_loaders.proofs.sums.FitLemmas.{HasOwner, fits, machine_is_good, recommitted_machine}
use Rattle.ms_loaders.proofs.steps.CloseLemmas.{served_with}

-- Pool and loaders stay together where loans and counts of accounts stay.
pub together_alike : (old new : Ledger) (loaders : List (ℕ × LoaderView)) → new.loans ≡ old.loans → new.given ≡ old.given
    → new.opened ≡ old.opened → new.class_opened ≡ old.class_opened → IsSoundLedger new → AreTogether old loaders
    → AreTogether new loaders
together_alike old new loaders loans given opened class_opened sound its = record {
  ledger_sound = sound;
  loaders_sound = its.loaders_sound;
  names = its.names;
  served = record {
    served = All-from_recursion (Serves new) (accounts_of loaders)
        (served_with old new loans (omega (arith, given)) (accounts_of loaders)
        (recursion_from_All (Serves old) (accounts_of loaders) its.served.served));
    distinct = its.served.distinct;
    no_other = subst (All (HasOwner (owners_of loaders))) (sym loans) its.served.no_other;
    opened = opened ∙ its.served.opened;
    class_opened = class_opened ∙ its.served.class_opened;
  };
}

-- Nodes purged.
pub together_purged : (old new : Ledger) (loaders : List (ℕ × LoaderView)) → new ≡ purged old → IsSoundLedger new
    → AreTogether old loaders → AreTogether new loaders
together_purged old new loaders is =
    together_alike old new loaders (ap (λ (l : Ledger). l.loans) is) (ap (λ (l : Ledger). l.given) is)
    (ap (λ (l : Ledger). l.opened) is) (ap (λ (l : Ledger). l.class_opened) is)

pub machine_purged_is : (old new : Ledger) (loaders : List (ℕ × LoaderView)) → new ≡ purged old → IsSoundLedger new
    → AreTogether old loaders
    → (machine_of new loaders ≡ machine_purged (machine_of old loaders)) × IsGood (machine_of new loaders)
machine_purged_is old new loaders is sound its = (
  ap (λ (l : Ledger). machine_of l loaders) is
      ∙ recommitted_machine (record old { slots = filter (has_chunk_in (held_in NonClass old)) old.slots }) loaders
      (fits old loaders its.loaders_sound its.served)
      ∙ ap (λ (l : List ℕ). machine_recommitted (record (machine_of old loaders) { slots = l }))
      (same_filter old.slots),
  machine_is_good new loaders (together_purged old new loaders is sound its),
)
  where
    same_filter : (slots : List ℕ)
        → filter (has_chunk_in (held_in NonClass old)) slots
        ≡ filter (has_chunk_in (chunks_held NonClass (states_of loaders))) slots
    same_filter [] = refl
    same_filter (slot ∷ slots) =
        ap (λ b. cond b (slot ∷ filter (has_chunk_in (held_in NonClass old)) slots)
        (filter (has_chunk_in (held_in NonClass old)) slots))
        (permuted_are_alike (held_in NonClass old) (chunks_held NonClass (states_of loaders))
        (fits old loaders its.loaders_sound its.served NonClass) (λ chunk. slot_of chunk.start == slot))
        ∙ ap (λ (l : List ℕ). cond (has_chunk_in (chunks_held NonClass (states_of loaders)) slot) (slot ∷ l) l)
        (same_filter slots)

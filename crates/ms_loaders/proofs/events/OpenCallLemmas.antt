-- Both accounts of a loader opened as an event, or refused for want of owner numbers.
use Rattle.std.proofs.Common.{◌≡◌, ◌≤◌, ◌<◌, ◌+◌, ℕ, None, Result, Ok, Err, List, [], ◌∷◌, refl, sym, subst, arith}
use Rattle.std.specs.Prelude.{◌^◌}
use Rattle.std.specs.List.{AllByRecursion}
use Rattle.std.proofs.lemmas.List.Elements.{recursion_from_All, All-from_recursion}
use Rattle.ms_base.specs.declared.kind.Kind.{Kind}
use Rattle.ms_base.specs.declared.kind.Space.{Space}
use Rattle.ms_base.specs.declared.kind.Space.TheVariants.{NonClass, Class}
use Rattle.ms_base.specs.declared.refusal.Refusal.{Refusal}
use Rattle.ms_base.specs.declared.refusal.Refusal.TheVariants.{IdsUsedUp}
use Rattle.ms_base.specs.Names.{named, with_new}
use Rattle.ms_base.specs.State.{arena_of, empty_loader}
use Rattle.ms_base.specs.Good.{IsSoundPool}
use Rattle.ms_base.specs.Run.Event.{opening, accepted, refused}
use Rattle.ms_base.proofs.machine.GoodLemmas.{sound_when_empty}
use Rattle.ms_pool.specs.Account.{AccountState, AreChunks}
use Rattle.ms_pool.specs.Tallies.{Tallies, one_more}
use Rattle.ms_pool.specs.Ledger.{Loan, Ledger, IsSoundLedger, state_in}
use Rattle.ms_pool.specs.Calls.{tallied}
use Rattle.ms_loader.specs.Loader.{LoaderView, new_loader, IsSoundView}
use Rattle.ms_loaders.specs.System.{AreTogether}
use Rattle.ms_loaders.specs.CallEvents.{IsEvent, IsOpenCall, OpensLoader}
use Rattle.ms_loaders.proofs.steps.StepLemmas.{lacks_loader}
use Rattle.ms_loaders.proofs.steps.CloseLemmas.{with_both, first_account, second_account, together_made, machine_made}
use Rattle.ms_loader.proofs.calls.EmptyLemmas.{nothing_lent}
use Rattle.ms_loaders.proofs.events.TalliedLemmas.{together_tallied}

-- A ledger is sound still where more owner numbers are given out, and accounts opened for them.
wider : (old more : ℕ) → old ≤ more → (loans : List Loan)
    → AllByRecursion (λ (loan : Loan). (1 ≤ loan.owner) × (loan.owner ≤ old)) loans
    → AllByRecursion (λ (loan : Loan). (1 ≤ loan.owner) × (loan.owner ≤ more)) loans
wider old more less [] all = tt
wider old more less (loan ∷ loans) all =
    ((all.0.0, omega (arith, all.0.1, less)), wider old more less loans all.1)

sound_with_both : (old : Ledger) → (with_both old).given < 2 ^ 32 → IsSoundLedger old → IsSoundLedger (with_both old)
sound_with_both old given sound = record {
  spaces = each;
  order = sound.order;
  owners = All-from_recursion _ old.loans
      (wider old.given (with_both old).given (omega arith) old.loans (recursion_from_All _ old.loans sound.owners));
  given = given;
  opened = omega (arith, sound.opened);
  nodes = sound.nodes;
  class_nodes = sound.class_nodes;
}
  where
    each : (space : Space) → IsSoundPool (state_in space (with_both old))
    each NonClass = sound.spaces NonClass
    each Class = sound.spaces Class

-- A new loader is sound.
pub new_is_sound : (kind : Kind) (a b : AccountState) → IsSoundView (new_loader a b kind)
new_is_sound kind a b = record { sound = sound_when_empty kind; chunks = each }
  where
    each : (space : Space) → AreChunks space (arena_of space (empty_loader kind)).chunks
    each NonClass = nothing_lent NonClass
    each Class = nothing_lent Class

-- Both accounts are opened, or none is.
module _ (old : Ledger) (loaders : List (ℕ × LoaderView)) (name : ℕ) (kind : Kind) (its : AreTogether old loaders)
    (unused : named loaders name ≡ None) where
  opened : (with_both old).given < 2 ^ 32
      → IsEvent old loaders (opening name kind) accepted (with_both old)
      (with_new loaders name (new_loader (first_account old) (second_account old) kind))
  opened given = record {
    happens = record {
      numbers = omega (arith, given);
      made = record {
        unused = lacks_loader old loaders name unused;
        after = machine_made old loaders name kind unused its;
      };
    };
    together = together_made old loaders name kind unused its (sound_with_both old given its.ledger_sound)
        (new_is_sound kind (first_account old) (second_account old));
  }

  used_up : (tallies : Tallies) → 2 ^ 32 ≤ old.given + 2
      → IsEvent old loaders (opening name kind) (refused IdsUsedUp) (tallied old tallies) loaders
  used_up tallies past = record {
    happens = ((lacks_loader old loaders name unused, past), refl);
    together = together_tallied old (tallied old tallies) loaders tallies refl its;
  }

pub opens : (old new : Ledger) (loaders : List (ℕ × LoaderView)) (name : ℕ) (kind : Kind)
    (result : Result (AccountState × AccountState) Refusal) → IsOpenCall old loaders name result new
    → OpensLoader old loaders name kind result new
opens old new loaders name kind (Ok accounts) its =
    subst (λ (l : Ledger). OpensLoader old loaders name kind (Ok accounts) l) (sym its.opened.1)
    (subst (λ (pair : AccountState × AccountState). OpensLoader old loaders name kind (Ok pair) (with_both old))
    (sym its.opened.0) (opened old loaders name kind its.together its.unused
    (subst (λ (l : Ledger). l.given < 2 ^ 32) its.opened.1 its.given)))
opens old new loaders name kind (Err refusal) its =
    subst (λ (l : Ledger). OpensLoader old loaders name kind (Err refusal) l) (sym its.opened.2)
    (subst (λ (r : Refusal). OpensLoader old loaders name kind (Err r) (tallied old tallies))
    (sym its.opened.0) (used_up old loaders name kind its.together its.unused tallies its.opened.1))
  where
    tallies : Tallies
    tallies = record old.tallies { open_ids = one_more old.tallies.open_ids }

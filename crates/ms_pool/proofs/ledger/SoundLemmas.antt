-- A ledger is sound where each space is but for its granules, these follow, and loans stand in
-- order; each call's lemma uses this.
use Rattle.std.proofs.Common.{◌≡◌, ◌≤◌, ◌<◌, ◌+◌, ◌^◌, ℕ, List, length, map, refl, sym, ap, ◌∙◌, arith}
use Rattle.std.specs.List.{All}
use Rattle.std.specs.List.Sorted.{IsStrictlyIncreasing}
use Rattle.ms_base.specs.declared.kind.Space.{Space}
use Rattle.ms_base.specs.declared.kind.Space.TheVariants.{NonClass, Class}
use Rattle.ms_base.specs.declared.span.Chunk.{Chunk}
use Rattle.ms_base.specs.Spaces.{other_space, by_space, class_slots}
use Rattle.ms_base.specs.Committed.{committed_with}
use Rattle.ms_base.specs.Held.{AreHeld}
use Rattle.ms_base.specs.State.{committed_now}
use Rattle.ms_base.specs.Good.{IsSoundPool}
use Rattle.ms_base.proofs.machine.GoodLemmas.{IsSoundBut, each_space}
use Rattle.ms_base.proofs.granules.CommittedLemmas.{committed_settles}
use Rattle.ms_pool.specs.Ledger.{Loan, Ledger, IsSoundLedger, held_in, committed_of, state_in, recommitted}
use Rattle.ms_pool.proofs.ledger.LoanLemmas.{chunks_in}
use Rattle.ms_base.proofs.machine.ChangeLemmas.{both_counts}

-- Where loans and owners stand.
pub record IsOrderly (ledger : Ledger) : Type 0 where
  pub order : IsStrictlyIncreasing (map (λ (loan : Loan). loan.chunk.start) ledger.loans)
  pub owners : All (λ (loan : Loan). (1 ≤ loan.owner) × (loan.owner ≤ ledger.given)) ledger.loans
  pub given : ledger.given < 2 ^ 32
  pub opened : ledger.opened + ledger.class_opened ≤ ledger.given

-- Both spaces are sound once their granules follow, if these keep the limit.
pub spaces_are_sound : (ledger : Ledger) → ((space : Space) → IsSoundBut (state_in space ledger))
    → length (committed_now (state_in NonClass ledger)) + length (committed_now (state_in Class ledger))
    ≤ ledger.limits.granules
    → (space : Space) → IsSoundPool (state_in space (recommitted ledger))
spaces_are_sound ledger sound few NonClass = record {
  held = (sound NonClass).held;
  slots = (sound NonClass).slots;
  below = (sound NonClass).below;
  committed = sym (committed_settles ledger.limits.policy ledger.committed (held_in NonClass ledger) ledger.slots);
  granules = few;
  reserved = (sound NonClass).reserved;
}
spaces_are_sound ledger sound few Class = record {
  held = (sound Class).held;
  slots = (sound Class).slots;
  below = (sound Class).below;
  committed =
      sym (committed_settles ledger.limits.policy ledger.class_committed (held_in Class ledger)
      (class_slots ledger.limits.class_nodes));
  granules = omega (arith, few);
  reserved = (sound Class).reserved;
}

-- So the ledger, where its loans are in order.
pub ledger_is_sound : (old mid : Ledger) → IsSoundLedger old → mid.limits ≡ old.limits → IsOrderly mid
    → ((space : Space) → IsSoundBut (state_in space mid))
    → length (committed_now (state_in NonClass mid)) + length (committed_now (state_in Class mid)) ≤ mid.limits.granules
    → IsSoundLedger (recommitted mid)
ledger_is_sound old mid sound same orderly spaces few = record {
  spaces = spaces_are_sound mid spaces few;
  order = orderly.order;
  owners = orderly.owners;
  given = orderly.given;
  opened = orderly.opened;
  nodes = rw same sound.nodes;
  class_nodes = rw same sound.class_nodes;
}

-- The ledger with other loans and other slots of a space, before the granules follow.
abbrev pub changed : Space → Ledger → List Loan → List ℕ → Ledger
changed space old loans slots = record old { loans = loans; slots = by_space space slots old.slots }

-- Where only one space changes, the other keeps its granules, and these count against one limit.
slots_there : (space : Space) (old : Ledger) (loans : List Loan) (slots : List ℕ)
    → (state_in (other_space space) (changed space old loans slots)).slots ≡ (state_in (other_space space) old).slots
slots_there NonClass old loans slots = refl
slots_there Class old loans slots = refl

committed_there : (space : Space) (old : Ledger) (loans : List Loan) (slots : List ℕ)
    → committed_of space (changed space old loans slots) ≡ committed_of space old
committed_there NonClass old loans slots = refl
committed_there Class old loans slots = refl

pub sound_with_change : (space : Space) (old : Ledger) (loans : List Loan) (slots : List ℕ) → IsSoundLedger old
    → chunks_in (other_space space) loans ≡ chunks_in (other_space space) old.loans
    → IsOrderly (changed space old loans slots) → IsSoundBut (state_in space (changed space old loans slots))
    → length (committed_now (state_in space (changed space old loans slots))) + length
    (committed_of (other_space space) old) ≤ old.limits.granules
    → IsSoundLedger (recommitted (changed space old loans slots))
sound_with_change space old loans slots sound same orderly here few =
    ledger_is_sound old mid sound refl orderly
    (each_space (λ (one : Space). IsSoundBut (state_in one mid)) space here sound_there)
    (both_counts (λ (one : Space). length (committed_now (state_in one mid))) space old.limits.granules
    (omega (arith, few, ap length as_it_was)))
  where
    there : Space
    there = other_space space

    mid : Ledger
    mid = changed space old loans slots

    slots_same : (state_in there mid).slots ≡ (state_in there old).slots
    slots_same = slots_there space old loans slots

    sound_there : IsSoundBut (state_in there mid)
    sound_there = record {
      held = rw (slots_same, same) (sound.spaces there).held;
      slots = rw slots_same (sound.spaces there).slots;
      below = rw slots_same (sound.spaces there).below;
      reserved = rw slots_same (sound.spaces there).reserved;
    }

    as_it_was : committed_now (state_in there mid) ≡ committed_of there old
    as_it_was =
        ap (λ (l : List ℕ). committed_with old.limits.policy l (held_in there mid) (state_in there mid).slots)
        (committed_there there old loans slots)
        ∙ ap (λ (l : List Chunk). committed_with old.limits.policy (committed_of there old) l
        (state_in there mid).slots) same
        ∙ ap (λ (l : List ℕ). committed_with old.limits.policy (committed_of there old) (held_in there old) l)
        slots_same
        ∙ sym (sound.spaces there).committed

-- So where the slots stay.
pub sound_with_loans : (space : Space) (old : Ledger) (loans : List Loan) → IsSoundLedger old
    → chunks_in (other_space space) loans ≡ chunks_in (other_space space) old.loans
    → IsOrderly (record old { loans = loans })
    → AreHeld old.limits.policy (state_in space old).slots (chunks_in space loans)
    → length (committed_with old.limits.policy (committed_of space old) (chunks_in space loans)
    (state_in space old).slots) + length (committed_of (other_space space) old)
    ≤ old.limits.granules
    → IsSoundLedger (recommitted (record old { loans = loans }))
sound_with_loans NonClass old loans sound same orderly held few =
    sound_with_change NonClass old loans old.slots sound same orderly
    (record {
      held = held;
      slots = (sound.spaces NonClass).slots;
      below = (sound.spaces NonClass).below;
      reserved = (sound.spaces NonClass).reserved;
    }) few
sound_with_loans Class old loans sound same orderly held few =
    sound_with_change Class old loans old.slots sound same orderly
    (record {
      held = held;
      slots = (sound.spaces Class).slots;
      below = (sound.spaces Class).below;
      reserved = (sound.spaces Class).reserved;
    }) few

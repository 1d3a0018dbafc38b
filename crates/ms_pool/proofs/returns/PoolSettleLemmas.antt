-- Where loans go step by step, the granules may follow at each step or once at the end. The proofs
-- of `close` and `close_both` use them.
use Rattle.std.proofs.Common.{◌≡◌, ℕ, Bool, true, false, cond, ◌||◌, List, [], ◌∷◌, refl, sym, ap, ◌∙◌, inl, inr}
use Rattle.std.specs.List.{filter, flat_map, list_any}
use Rattle.std.proofs.lemmas.Bool.{or_cases, or_left, or_right}
use Rattle.std.proofs.lemmas.List.Elements.{filter_agree}
use Rattle.ms_base.specs.declared.kind.Space.{Space}
use Rattle.ms_base.specs.declared.kind.Space.TheVariants.{NonClass, Class}
use Rattle.ms_base.specs.declared.policy.Policy.{Policy}
use Rattle.ms_base.specs.declared.span.Chunk.{Chunk}
use Rattle.ms_base.specs.Policy.{granule_of, keeps}
use Rattle.ms_base.specs.Spaces.{class_slots, is_in}
use Rattle.ms_base.specs.Committed.{committed_with, granules_of, is_committed_now}
use Rattle.ms_base.specs.State.{committed_now}
use Rattle.ms_base.proofs.granules.GranuleKeepingLemmas.{uncommits_nothing}
use Rattle.ms_pool.specs.Ledger.{Loan, Ledger, IsSoundLedger, committed_of, recommitted, state_in}
use Rattle.ms_pool.proofs.ledger.LoanLemmas.{chunks_in}
use Rattle.ms_pool.proofs.returns.ReleasedGranuleLemmas.{now_without}

-- What was committed before counts only where the policy keeps.
from_either : (policy : Policy) (before other : List ℕ) (held : List Chunk) (slots : List ℕ)
    → (keeps policy ≡ true → before ≡ other)
    → committed_with policy before held slots ≡ committed_with policy other held slots
from_either policy before other held slots same = go (keeps policy) refl
  where
    go : (b : Bool) → keeps policy ≡ b
        → committed_with policy before held slots ≡ committed_with policy other held slots
    go true e = ap (λ (l : List ℕ). committed_with policy l held slots) (same e)
    go false e = filter_agree (is_committed_now policy before held) (is_committed_now policy other held)
        (λ k. now_without policy before held k e ∙ sym (now_without policy other held k e))
        (flat_map (granules_of (granule_of policy)) slots)

any_of_fewer : (space : Space) (test : Chunk → Bool) (p : Loan → Bool) (loans : List Loan)
    → list_any test (chunks_in space (filter p loans)) ≡ true
    → list_any test (chunks_in space loans) ≡ true
any_of_fewer space test p [] there = there
any_of_fewer space test p (loan ∷ loans) there =
    go (p loan) (is_in space loan.chunk.start) refl there (any_of_fewer space test p loans)
  where
    fewer : List Chunk
    fewer = chunks_in space (filter p loans)

    rest : List Chunk
    rest = chunks_in space loans

    more : (list_any test fewer ≡ true → list_any test rest ≡ true) → (test loan.chunk || list_any test fewer) ≡ true
        → (test loan.chunk || list_any test rest) ≡ true
    more still h = elim (or_cases (test loan.chunk) (list_any test fewer) h) [
      | inl here ↦ or_left (test loan.chunk) (list_any test rest) here
      | inr later ↦ or_right (test loan.chunk) (list_any test rest) (still later)
    ]

    go : (t here : Bool) → is_in space loan.chunk.start ≡ here
        → list_any test (chunks_in space (cond t (loan ∷ filter p loans) (filter p loans))) ≡ true
        → (list_any test fewer ≡ true → list_any test rest ≡ true)
        → list_any test (cond here (loan.chunk ∷ rest) rest) ≡ true
    go false true e h still = or_right (test loan.chunk) (list_any test rest) (still h)
    go false false e h still = still h
    go true true e h still =
        more still (sym (ap (λ (b : Bool). list_any test (cond b (loan.chunk ∷ fewer) fewer)) e) ∙ h)
    go true false e h still = still (sym (ap (λ (b : Bool). list_any test (cond b (loan.chunk ∷ fewer) fewer)) e) ∙ h)

stays_where_kept : (old : Ledger) (p : Loan → Bool) (space : Space) → IsSoundLedger old → keeps old.limits.policy ≡ true
    → committed_with old.limits.policy (committed_of space old) (chunks_in space (filter p old.loans))
    (state_in space old).slots ≡ committed_of space old
stays_where_kept old p space sound keeping =
    (uncommits_nothing (state_in space old) (sound.spaces space) keeping).given_back
    (chunks_in space (filter p old.loans)) (λ test. any_of_fewer space test p old.loans)

-- Some loans go, and then others: the granules follow at once or twice.
pub settles_once : (old : Ledger) (p : Loan → Bool) (loans : List Loan) (opened class_opened to class_to : ℕ)
    → IsSoundLedger old
    → recommitted
    (record (recommitted
    (record old { loans = filter p old.loans; opened = opened; class_opened = class_opened })) {
      loans = loans;
      opened =
          to;
      class_opened = class_to;
    })
    ≡ recommitted (record old { loans = loans; opened = to; class_opened = class_to })
settles_once old p loans opened class_opened to class_to sound =
    ap (λ (l : List ℕ). made l
    (committed_with old.limits.policy
    (committed_with old.limits.policy old.class_committed (chunks_in Class (filter p old.loans)) class)
    (chunks_in Class loans) class))
    (from_either old.limits.policy
    (committed_with old.limits.policy old.committed (chunks_in NonClass (filter p old.loans)) old.slots)
    old.committed (chunks_in NonClass loans) old.slots
    (stays_where_kept old p NonClass sound))
    ∙ ap (λ (l : List ℕ). made (committed_with old.limits.policy old.committed (chunks_in NonClass loans) old.slots) l)
    (from_either old.limits.policy
    (committed_with old.limits.policy old.class_committed (chunks_in Class (filter p old.loans)) class)
    old.class_committed (chunks_in Class loans) class
    (stays_where_kept old p Class sound))
  where
    class : List ℕ
    class = class_slots old.limits.class_nodes

    made : List ℕ → List ℕ → Ledger
    made committed class_committed =
        record old {
          loans = loans;
          opened = to;
          class_opened = class_to;
          committed = committed;
          class_committed = class_committed;
        }

-- A sound ledger's granules have followed.
pub settled_already : (old : Ledger) → IsSoundLedger old → recommitted old ≡ old
settled_already old sound =
    sym (ap (λ (l : List ℕ). record old { committed = l }) (sound.spaces NonClass).committed
    ∙ ap (λ (l : List ℕ). record old { committed = committed_now (state_in NonClass old); class_committed = l })
    (sound.spaces Class).committed)

-- In a run of the machine each loader is answered by its own requests, in any order that keeps
-- those of each worker. For `replies_are_own` and `replies_of_workers_are_own`.
use Rattle.std.proofs.Common.{◌≡◌, ◌≢◌, ◌==◌, ◌⊎◌, inl, inr, ℕ, Bool, true, false, Option, Some, None, List, [], ◌∷◌}
use Rattle.std.proofs.Common.{refl, sym, ap, ◌∙◌, subst, cond}
use Rattle.std.specs.List.{filter}
use Rattle.std.proofs.lemmas.Bool.{eq-eqb, ne_eqb}
use mathlib.Core.Logic.{dite}
use native.Mathlib.Decide.{ℕ_discrete}
use Rattle.ms_base.specs.Request.{loader_of, is_name}
use Rattle.ms_base.specs.State.{Machine}
use Rattle.ms_base.specs.Good.{IsGood}
use Rattle.ms_base.specs.Run.Alone.{OwnLoader, OwnReply}
use Rattle.ms_base.specs.Run.Own.{Said, own_said, own_in, OwnRun}
use Rattle.ms_base.specs.Laws.Own.{IsRunOf, KeepsEach, RepliesFollow}
use Rattle.ms_base.proofs.own.OwnStepLemmas.{transition_own, transition_others, transition_good}

-- Whether a request names the loader.
pub names_or_not : (name : ℕ) (asked : Option ℕ) → ((asked ≡ Some name) × (is_name name asked ≡ true))
    ⊎ ((asked ≢ Some name) × (is_name name asked ≡ false))
names_or_not name None = inr ((λ e. absurd (cc)), refl)
names_or_not name (Some other) =
    dite (ℕ_discrete other name) (λ e. inl (ap Some e, eq-eqb other name e))
    (λ n. inr ((λ e. n (cc)), ne_eqb other name n))

-- What is said first is kept, or left out.
kept_first : (p : Said → Bool) (s : Said) (said : List Said) → p s ≡ true → filter p (s ∷ said) ≡ s ∷ filter p said
kept_first p s said is = ap (λ b. cond b (s ∷ filter p said) (filter p said)) is

left_out : (p : Said → Bool) (s : Said) (said : List Said) → p s ≡ false → filter p (s ∷ said) ≡ filter p said
left_out p s said is = ap (λ b. cond b (s ∷ filter p said) (filter p said)) is

abbrev is_of : ℕ → Said → Bool
is_of name s = is_name name (loader_of s.0)

-- A request more, before the others.
one_before : (before mid after : Option OwnLoader) (s : Said) (said : List Said)
    → (refused : Bool) × OwnReply before s.0 refused s.1 mid → OwnRun mid said after → OwnRun before (s ∷ said) after
one_before before mid after s said one run = (one.0 ∷ run.0, (mid, one.1, run.1))

pub replies_own : (old new : Machine) (said : List Said) → IsGood old → IsRunOf old said new → RepliesFollow old said new
replies_own old new [] good ran name = ([], ap (λ (m : Machine). own_in m.loaders name) ran)
replies_own old new (s ∷ said) good (mid, told, ran) name =
    let rest = replies_own mid new said (transition_good old mid s.0 s.1 told good) ran name in
    elim (names_or_not name (loader_of s.0)) [
      | inl its ↦
          subst (λ (l : List Said). OwnRun (own_in old.loaders name) l (own_in new.loaders name))
          (sym (kept_first (is_of name) s said its.1))
          (one_before (own_in old.loaders name) (own_in mid.loaders name) (own_in new.loaders name) s (own_said name said)
          (transition_own old mid s.0 s.1 good told name its.0) rest)
      | inr other ↦
          subst (λ (l : List Said). OwnRun (own_in old.loaders name) l (own_in new.loaders name))
          (sym (left_out (is_of name) s said other.1))
          (subst (λ (own : Option OwnLoader). OwnRun own (own_said name said) (own_in new.loaders name))
          (transition_others old mid s.0 s.1 told name other.0) rest)
    ]

module _ (worker : Option ℕ → ℕ) (name : ℕ) where
  abbrev is_workers : Said → Bool
  is_workers s = worker (loader_of s.0) == worker (Some name)

  -- A loader's requests are all of its worker's.
  own_of_worker : (said : List Said) → own_said name (filter is_workers said) ≡ own_said name said
  own_of_worker [] = refl
  own_of_worker (s ∷ said) = elim (names_or_not name (loader_of s.0)) [
    | inl its ↦
        ap (own_said name)
        (kept_first is_workers s said
        (eq-eqb (worker (loader_of s.0)) (worker (Some name)) (ap worker its.0)))
        ∙ kept_first (is_of name) s (filter is_workers said) its.1
        ∙ ap (λ (l : List Said). s ∷ l) (own_of_worker said) ∙ sym (kept_first (is_of name) s said its.1)
    | inr other ↦ dropped (is_workers s) refl other.1 (own_of_worker said)
  ]
    where
      dropped : (b : Bool) → is_workers s ≡ b → is_of name s ≡ false
          → own_said name (filter is_workers said) ≡ own_said name said
          → own_said name (filter is_workers (s ∷ said)) ≡ own_said name (s ∷ said)
      dropped true kept is rest = ap (own_said name) (kept_first is_workers s said kept)
          ∙ left_out (is_of name) s (filter is_workers said) is ∙ rest ∙ sym (left_out (is_of name) s said is)
      dropped false left is rest = ap (own_said name) (left_out is_workers s said left) ∙ rest
          ∙ sym (left_out (is_of name) s said is)

  -- So they stand in the same order where the worker's do.
  same_own_said : (order said : List Said) → KeepsEach worker order said → own_said name order ≡ own_said name said
  same_own_said order said keeps =
      sym (own_of_worker order) ∙ ap (own_said name) (keeps (worker (Some name))) ∙ own_of_worker said

pub workers_replies_own : (worker : Option ℕ → ℕ) (old new : Machine) (order said : List Said) → IsGood old
    → KeepsEach worker order said → IsRunOf old order new → RepliesFollow old said new
workers_replies_own worker old new order said good keeps ran name =
    subst (λ (l : List Said). OwnRun (own_in old.loaders name) l (own_in new.loaders name))
    (same_own_said worker name order said keeps) (replies_own old new order good ran name)

-- A transition of the machine answers the loader that it names by its own lines, and leaves the
-- others; for the lines that one worker answers.
use Rattle.std.proofs.Common.{◌≡◌, ◌≢◌, ℕ, Some, List}
use Rattle.std.proofs.Common.{refl, sym, ap, ◌∙◌, subst, inl, inr}
use Rattle.ms_base.specs.declared.step.Step.{Step}
use Rattle.ms_base.specs.declared.step.Step.TheVariants.{New, Alloc, Calloc, Write, Read, Free, Unload, Purge}
use Rattle.ms_base.specs.declared.step.Reply.{Reply}
use Rattle.ms_base.specs.declared.step.Reply.TheVariants.{Ok as Done, At, Value, Refused}
use Rattle.ms_base.specs.declared.refusal.Refusal.{Refusal}
use Rattle.ms_base.specs.declared.refusal.Refusal.TheVariants.{OutOfMemory}
use Rattle.ms_base.specs.Names.{named}
use Rattle.ms_base.specs.Request.{loader_of}
use Rattle.ms_base.specs.State.{LoaderState, Machine, empty_loader}
use Rattle.ms_base.specs.Good.{IsGood}
use Rattle.ms_base.specs.Transition.{Transition, Leaves, Cause}
use Rattle.ms_base.specs.Transition.{ServesStep}
use Rattle.ms_base.proofs.entries.LookupLemmas.{named_changed_other}
use Rattle.ms_base.proofs.entries.LookupLemmas.{named_new_other, named_without_other}
use Rattle.ms_base.proofs.machine.GoodLemmas.{good_with_numbers_used}
use Rattle.ms_base.specs.Run.Own.{own_of, own_in}
use Rattle.ms_base.proofs.own.OwnRefusedLemmas.{AnswersOwn, IsOwn, refused_own}
use Rattle.ms_base.proofs.own.OwnServedLemmas.{served_own}

-- A refusal changes no loader.
pub refused_leaves : (old new : Machine) (step : Step) (refusal : Refusal) → Leaves old step refusal new
    → new.loaders ≡ old.loaders
refused_leaves old new (New name kind) OutOfMemory (inl same) = ap (λ (m : Machine). m.loaders) same
refused_leaves old new (New name kind) OutOfMemory (inr used) = ap (λ (m : Machine). m.loaders) used
refused_leaves old new _ _ same = ap (λ (m : Machine). m.loaders) same

-- The reply to a request follows from its loader's own lines.
pub transition_own : (old new : Machine) (step : Step) (reply : Reply) → IsGood old → Transition old step reply new
    → AnswersOwn old step reply new
transition_own old new step (Refused refusal) was told = λ name e.
    subst (λ (l : List (ℕ × LoaderState)). IsOwn (own_in old.loaders name) step (Refused refusal) (own_in l name))
    (sym (refused_leaves old new step refusal told.1))
    (refused_own old step refusal told.0 name e)
transition_own old new step Done was told = served_own old new step Done was told.1 told.0
transition_own old new step (At start) was told = served_own old new step (At start) was told.1 told.0
transition_own old new step (Value value) was told = served_own old new step (Value value) was told.1 told.0

-- Another name has the loader that it had.
abbrev pub LeavesOtherNames : Machine → Step → Machine → Type 0
LeavesOtherNames old step new = (name : ℕ) → loader_of step ≢ Some name → named new.loaders name ≡ named old.loaders name

differs : (mine name : ℕ) → Some mine ≢ Some name → mine ≡ name → ⊥
differs mine name other e = other (ap (λ (n : ℕ). Some n) e)

pub served_others : (old new : Machine) (step : Step) (reply : Reply) → ServesStep old step reply new
    → LeavesOtherNames old step new
served_others old new (New mine kind) Done made = λ name other.
    ap (λ (m : Machine). named m.loaders name) made.after
    ∙ named_new_other old.loaders mine (empty_loader kind) name (differs mine name other)
served_others old new (Alloc mine block words) (At start) made = λ name other.
    ap (λ (m : Machine). named m.loaders name) made.after
    ∙ named_changed_other old.loaders mine _ name (differs mine name other)
served_others old new (Calloc mine block words) (At start) made = λ name other.
    ap (λ (m : Machine). named m.loaders name) made.after
    ∙ named_changed_other old.loaders mine _ name (differs mine name other)
served_others old new (Write mine block index value) Done made = λ name other.
    ap (λ (m : Machine). named m.loaders name) made.after
    ∙ named_changed_other old.loaders mine _ name (differs mine name other)
served_others old new (Read mine block index) (Value value) made =
    λ name other. ap (λ (m : Machine). named m.loaders name) made.after
served_others old new (Free mine block) Done made = λ name other.
    ap (λ (m : Machine). named m.loaders name) made.after
    ∙ named_changed_other old.loaders mine _ name (differs mine name other)
served_others old new (Unload mine) Done made = λ name other.
    ap (λ (m : Machine). named m.loaders name) made.after
    ∙ named_without_other old.loaders mine name (differs mine name other)
served_others old new Purge Done made = λ name other. ap (λ (m : Machine). named m.loaders name) made
served_others old new _ _ made = absurd made

transition_leaves : (old new : Machine) (step : Step) (reply : Reply) → Transition old step reply new
    → LeavesOtherNames old step new
transition_leaves old new step (Refused refusal) told =
    λ name other. ap (λ (l : List (ℕ × LoaderState)). named l name) (refused_leaves old new step refusal told.1)
transition_leaves old new step Done told = served_others old new step Done told.0
transition_leaves old new step (At start) told = served_others old new step (At start) told.0
transition_leaves old new step (Value value) told = served_others old new step (Value value) told.0

-- So its own requests know of it what they knew.
pub transition_others : (old new : Machine) (step : Step) (reply : Reply) → Transition old step reply new
    → (name : ℕ) → loader_of step ≢ Some name → own_in new.loaders name ≡ own_in old.loaders name
transition_others old new step reply told name other = ap own_of (transition_leaves old new step reply told name other)

-- The limits stay.
served_limits : (old new : Machine) (step : Step) (reply : Reply) → ServesStep old step reply new → new.limits ≡ old.limits
served_limits old new (New mine kind) Done made = ap (λ (m : Machine). m.limits) made.after
served_limits old new (Alloc mine block words) (At start) made = ap (λ (m : Machine). m.limits) made.after
served_limits old new (Calloc mine block words) (At start) made = ap (λ (m : Machine). m.limits) made.after
served_limits old new (Write mine block index value) Done made = ap (λ (m : Machine). m.limits) made.after
served_limits old new (Read mine block index) (Value value) made = ap (λ (m : Machine). m.limits) made.after
served_limits old new (Free mine block) Done made = ap (λ (m : Machine). m.limits) made.after
served_limits old new (Unload mine) Done made = ap (λ (m : Machine). m.limits) made.after
served_limits old new Purge Done made = ap (λ (m : Machine). m.limits) made
served_limits old new _ _ made = absurd made

refused_limits : (old new : Machine) (step : Step) (refusal : Refusal) → Leaves old step refusal new
    → new.limits ≡ old.limits
refused_limits old new (New name kind) OutOfMemory (inl same) = ap (λ (m : Machine). m.limits) same
refused_limits old new (New name kind) OutOfMemory (inr used) = ap (λ (m : Machine). m.limits) used
refused_limits old new _ _ same = ap (λ (m : Machine). m.limits) same

pub transition_limits : (old new : Machine) (step : Step) (reply : Reply) → Transition old step reply new
    → new.limits ≡ old.limits
transition_limits old new step (Refused refusal) told = refused_limits old new step refusal told.1
transition_limits old new step Done told = served_limits old new step Done told.0
transition_limits old new step (At start) told = served_limits old new step (At start) told.0
transition_limits old new step (Value value) told = served_limits old new step (Value value) told.0

-- A good machine stays good.
refused_good : (old new : Machine) (step : Step) (refusal : Refusal) → Cause old step refusal
    → Leaves old step refusal new → IsGood old → IsGood new
refused_good old new (New name kind) OutOfMemory cause (inl same) good = subst IsGood (sym same) good
refused_good old new (New name kind) OutOfMemory cause (inr used) good =
    subst IsGood (sym used) (good_with_numbers_used old cause.1 good)
refused_good old new _ _ cause same good = subst IsGood (sym same) good

pub transition_good : (old new : Machine) (step : Step) (reply : Reply) → Transition old step reply new → IsGood old
    → IsGood new
transition_good old new step (Refused refusal) told good = refused_good old new step refusal told.0 told.1 good
transition_good old new step Done told good = told.1
transition_good old new step (At start) told good = told.1
transition_good old new step (Value value) told good = told.1

-- A purge is done.
pub purge_done : (old new : Machine) (step : Step) (reply : Reply) → Transition old step reply new → step ≡ Purge
    → reply ≡ Done
purge_done old new step reply told is = go reply (subst (λ (s : Step). Transition old s reply new) is told)
  where
    go : (one : Reply) → Transition old Purge one new → one ≡ Done
    go Done told = refl
    go (Refused refusal) told = absurd told.0
    go (At start) told = absurd told.0
    go (Value value) told = absurd told.0

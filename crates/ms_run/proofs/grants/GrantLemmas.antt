-- What an allocation over the lock tells a loader: the answer is one that the loader's own lines
-- allow, or the allocation was refused for want.
use Rattle.std.proofs.Common.{◌≡◌, ℕ, Bool, true, false, Option, Some, None, Result, Ok, Err, List}
use Rattle.std.proofs.Common.{refl, sym, subst, inl, inr}
use Rattle.ms_base.specs.declared.kind.Space.{Space}
use Rattle.ms_base.specs.declared.kind.Space.TheVariants.{NonClass, Class}
use Rattle.ms_base.specs.declared.policy.Policy.{Policy}
use Rattle.ms_base.specs.declared.span.Block.{Block}
use Rattle.ms_base.specs.declared.step.Reply.{Reply}
use Rattle.ms_base.specs.declared.step.Reply.TheVariants.{At, Refused}
use Rattle.ms_base.specs.declared.refusal.Refusal.{Refusal}
use Rattle.ms_base.specs.declared.refusal.Refusal.TheVariants.{NoLoader}
use Rattle.ms_base.specs.Names.{named, with_changed}
use Rattle.ms_base.specs.Request.{alloc_in}
use Rattle.ms_base.specs.Run.Alone.{OwnLoader, IsAllocWant, CanAlloc, AnswersAlloc, OwnReply}
use Rattle.ms_base.proofs.entries.LookupLemmas.{named_changed_same}
use Rattle.ms_loader.specs.Loader.{LoaderView, IsSoundView, AllocatesBlock}
use Rattle.ms_loaders.specs.System.{states_of}
use Rattle.ms_shared.specs.SeatView.{SeatState}
use Rattle.ms_shared.specs.LockCalls.{TookOver, GrewOver}
use Rattle.ms_base.specs.Run.Own.{own_in}
use Rattle.ms_run.proofs.TouchLemmas.{own_missing, own_found}
use Rattle.ms_run.proofs.grants.GrantToldLemmas.{IsRefusedOwn, is_answered, own_part}
use Rattle.ms_run.proofs.grants.GrantClearLemmas.{is_added}

-- The replies.
by_lines : (space : Space) (name block words : ℕ) (own : OwnLoader) (reply : Reply) (after : Option OwnLoader)
    → AnswersAlloc own space block words reply after
    → OwnReply (Some own) (alloc_in space name block words) false reply after
by_lines NonClass name block words own reply after answers = answers
by_lines Class name block words own reply after answers = answers

by_want : (space : Space) (name block words : ℕ) (own : OwnLoader) (refusal : Refusal) (after : Option OwnLoader)
    → CanAlloc own block words → IsAllocWant refusal → after ≡ Some own
    → OwnReply (Some own) (alloc_in space name block words) true (Refused refusal) after
by_want NonClass name block words own refusal after can want same = (can, want, same)
by_want Class name block words own refusal after can want same = (can, want, same)

without : (space : Space) (name block words : ℕ)
    → OwnReply None (alloc_in space name block words) false (Refused NoLoader) None
without NonClass name block words = refl
without Class name block words = refl

pub replies_without : (space : Space) (loaders : List (ℕ × LoaderView)) (name block words : ℕ)
    → named loaders name ≡ None
    → OwnReply (own_in (states_of loaders) name) (alloc_in space name block words) false (Refused NoLoader)
    (own_in (states_of loaders) name)
replies_without space loaders name block words none =
    subst (λ (o : Option OwnLoader). OwnReply o (alloc_in space name block words) false (Refused NoLoader) o)
    (sym (own_missing loaders name none)) (without space name block words)

-- Between the loaders before and after.
between : (loaders : List (ℕ × LoaderView)) (name : ℕ) (was is : LoaderView)
    (P : Option OwnLoader → Option OwnLoader → Type 0) → named loaders name ≡ Some was
    → P (Some (own_part was)) (Some (own_part is))
    → P (own_in (states_of loaders) name) (own_in (states_of (with_changed loaders name is)) name)
between loaders name was is P found holds =
    subst (λ (o : Option OwnLoader). P o (own_in (states_of (with_changed loaders name is)) name))
    (sym (own_found loaders name was found))
    (subst (P (Some (own_part was)))
    (sym (own_found (with_changed loaders name is) name is (named_changed_same loaders name was is found))) holds)

pub replies_at : (space : Space) (policy : Policy) (old new : SeatState) (loaders : List (ℕ × LoaderView))
    (name block words : ℕ) (was is : LoaderView)
    (answer : Result Block Refusal) (made : Block)
    → answer ≡ Ok made → named loaders name ≡ Some was
    → AllocatesBlock GrewOver TookOver policy space was block words old answer is new → IsSoundView is
    → OwnReply (own_in (states_of loaders) name) (alloc_in space name block words) false (At made.start)
    (own_in (states_of (with_changed loaders name is)) name)
replies_at space policy old new loaders name block words was is answer made ok found allocates sound =
    between loaders name was is
    (λ before after. OwnReply before (alloc_in space name block words) false (At made.start) after) found
    (by_lines space name block words (own_part was) (At made.start) (Some (own_part is))
    (is_added space policy old new was is block words made
    (subst (λ (a : Result Block Refusal). AllocatesBlock GrewOver TookOver policy space was block words old a is
    new) ok allocates) sound))

pub replies_why : (space : Space) (policy : Policy) (old new : SeatState) (loaders : List (ℕ × LoaderView))
    (name block words : ℕ) (was is : LoaderView)
    (answer : Result Block Refusal) (refusal : Refusal)
    → answer ≡ Err refusal → named loaders name ≡ Some was
    → AllocatesBlock GrewOver TookOver policy space was block words old answer is new
    → (want : Bool) × OwnReply (own_in (states_of loaders) name) (alloc_in space name block words) want
    (Refused refusal) (own_in (states_of (with_changed loaders name is)) name)
replies_why space policy old new loaders name block words was is answer refusal err found allocates =
    between loaders name was is
    (λ before after. (want : Bool) × OwnReply before (alloc_in space name block words) want (Refused refusal) after)
    found (elim answered [
      | inl lines ↦ (false, by_lines space name block words (own_part was) (Refused refusal) (Some (own_part is)) lines)
      | inr want ↦
          (true, by_want space name block words (own_part was) refusal (Some (own_part is)) want.0 want.1 want.2)
    ])
  where
    answered : IsRefusedOwn (own_part was) space block words refusal (Some (own_part is))
    answered = is_answered space policy old new was is block words refusal
        (subst (λ (a : Result Block Refusal). AllocatesBlock GrewOver TookOver policy space was block words old a is
        new) err allocates)

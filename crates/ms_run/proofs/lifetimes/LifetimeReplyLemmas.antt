-- What a loader's own lines are told where it is made and unloaded. For `new_loader` and `unload`.
use Rattle.std.proofs.Common.{◌≡◌, ℕ, Bool, true, false, Option, Some, None, List, [], refl, sym, subst}
use Rattle.ms_base.specs.declared.kind.Kind.{Kind}
use Rattle.ms_base.specs.declared.step.Step.TheVariants.{New, Unload}
use Rattle.ms_base.specs.declared.step.Reply.TheVariants.{Ok as Done, Refused}
use Rattle.ms_base.specs.declared.refusal.Refusal.{Refusal}
use Rattle.ms_base.specs.declared.refusal.Refusal.TheVariants.{LoaderExists, NoLoader, IdsUsedUp}
use Rattle.ms_base.specs.Run.Alone.{OwnLoader, OwnReply}
use Rattle.ms_base.specs.Names.{AreNamed, named, without}
use Rattle.ms_base.proofs.events.SeenEntryLemmas.{named_without_same}
use Rattle.ms_loader.specs.Loader.{LoaderView}
use Rattle.ms_loaders.specs.System.{states_of}
use Rattle.ms_base.specs.Run.Own.{own_in}
use Rattle.ms_run.proofs.TouchLemmas.{own_missing, own_found}

-- A name that is used.
pub exists_reply : (loaders : List (ℕ × LoaderView)) (name : ℕ) (kind : Kind) (v : LoaderView)
    → named loaders name ≡ Some v
    → (want : Bool) × OwnReply (own_in (states_of loaders) name) (New name kind) want (Refused LoaderExists)
    (own_in (states_of loaders) name)
exists_reply loaders name kind v found =
    subst (λ (o : Option OwnLoader). (want : Bool) × OwnReply o (New name kind) want (Refused LoaderExists) o)
    (sym (own_found loaders name v found)) (false, refl)

-- A name that is free, and memory or owner numbers are wanting.
pub numbers_reply : (before : Option OwnLoader) (refusal : Refusal) (name : ℕ) (kind : Kind) → before ≡ None
    → refusal ≡ IdsUsedUp
    → (want : Bool) × OwnReply before (New name kind) want (Refused refusal) before
numbers_reply before refusal name kind is cause =
    subst (λ (o : Option OwnLoader). (want : Bool) × OwnReply o (New name kind) want (Refused refusal) o) (sym is)
    (subst (λ (r : Refusal). (want : Bool) × OwnReply None (New name kind) want (Refused r) None) (sym cause)
    (true, (tt, tt, refl)))

-- A loader is made.
pub made_reply : (before after : Option OwnLoader) (name : ℕ) (kind : Kind) → before ≡ None
    → after ≡ Some (record { kind = kind; blocks = [] })
    → OwnReply before (New name kind) false Done after
made_reply before after name kind is made =
    subst (λ (o : Option OwnLoader). OwnReply o (New name kind) false Done after) (sym is) made

-- A loader is unloaded, or there is none.
pub unloaded_reply : (loaders : List (ℕ × LoaderView)) (name : ℕ) (v : LoaderView) → AreNamed loaders
    → named loaders name ≡ Some v
    → OwnReply (own_in (states_of loaders) name) (Unload name) false Done
    (own_in (states_of (without loaders name)) name)
unloaded_reply loaders name v rises found =
    subst (λ (o : Option OwnLoader). OwnReply o (Unload name) false Done
    (own_in (states_of (without loaders name)) name)) (sym (own_found loaders name v found))
    (own_missing (without loaders name) name (named_without_same loaders name rises))

pub none_reply : (loaders : List (ℕ × LoaderView)) (name : ℕ) → named loaders name ≡ None
    → OwnReply (own_in (states_of loaders) name) (Unload name) false (Refused NoLoader)
    (own_in (states_of loaders) name)
none_reply loaders name none =
    subst (λ (o : Option OwnLoader). OwnReply o (Unload name) false (Refused NoLoader) o)
    (sym (own_missing loaders name none)) refl

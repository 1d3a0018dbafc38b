-- A step over the lock as events of its seat, and what is said as acts. For the lemmas of `answer`,
-- and for `working`.
use Rattle.std.proofs.Common.{◌≡◌, ℕ, List, [], ◌∷◌, ◌++◌, refl, sym, ap, ◌∙◌, subst, append-nil, append_assoc}
use Rattle.ms_base.specs.declared.kind.Space.TheVariants.{NonClass, Class}
use Rattle.ms_base.specs.declared.step.Step.{Step}
use Rattle.ms_base.specs.declared.step.Reply.{Reply}
use Rattle.ms_pool.specs.Account.{AccountState}
use Rattle.ms_pool.specs.Ledger.{Ledger, with_both_closed, Serves as ServesIn}
use Rattle.ms_pool.specs.Source.{ServesBoth}
use Rattle.ms_pool.specs.Calls.{ClosedBoth}
use Rattle.ms_shared.proofs.LockCloseLemmas.{both_served_by_pool}
use Rattle.ms_loader.specs.Loader.{LoaderView, account_in}
use Rattle.ms_shared.specs.History.{Event}
use Rattle.ms_shared.specs.SeatView.{SeatState, ServesBy, OverLock}
use Rattle.ms_base.specs.Run.Own.{Said}
use Rattle.ms_run.specs.Acts.{IsClosing, Makes, HasMade, Act, IsAct, IsOwnStep, said_of, events_by, Works, HasActed}

pub made_none : (seat : SeatState) (are : List Event → Type 0) → are [] → HasMade seat seat are
made_none seat are so = record { made = []; lock = refl; events = sym (append-nil seat.events); number = refl; sound = tt; are_so = so }

pub made_one : {call : Ledger → Ledger → Type 0} (old new : SeatState) (its : OverLock call old new)
    (are : List Event → Type 0) → are ((its.before, its.after) ∷ []) → HasMade old new are
made_one old new its are so = record {
  made = (its.before, its.after) ∷ [];
  lock = ap (λ (s : SeatState). s.id) its.left;
  events = ap (λ (s : SeatState). s.events) its.left;
  number = ap (λ (s : SeatState). s.number) its.left;
  sound = ((its.sound, its.sound_after), tt);
  are_so = so;
}

pub made_two : {call other : Ledger → Ledger → Type 0} (old mid new : SeatState) (first : OverLock call old mid)
    (second : OverLock other mid new) (are : List Event → Type 0)
    → are ((first.before, first.after) ∷ (second.before, second.after) ∷ []) → HasMade old new are
made_two old mid new first second are so = record {
  made = (first.before, first.after) ∷ (second.before, second.after) ∷ [];
  lock = ap (λ (s : SeatState). s.id) second.left ∙ ap (λ (s : SeatState). s.id) first.left;
  events = ap (λ (s : SeatState). s.events) second.left
      ∙ ap (λ (s : SeatState). s.events ++ (second.before, second.after) ∷ []) first.left
      ∙ append_assoc old.events ((first.before, first.after) ∷ []) ((second.before, second.after) ∷ []);
  number = ap (λ (s : SeatState). s.number) second.left ∙ ap (λ (s : SeatState). s.number) first.left;
  sound = ((first.sound, first.sound_after), ((second.sound, second.sound_after), tt));
  are_so = so;
}

-- Both accounts of a loader are closed over the lock.
pub is_closing : (loader : LoaderView) (old new : SeatState) (account class_account : AccountState)
    → account ≡ account_in NonClass loader → class_account ≡ account_in Class loader
    → ServesBoth ServesBy old.knows account class_account
    → (its : OverLock (λ before after. ClosedBoth before account class_account after) old new)
    → IsClosing loader (its.before, its.after)
is_closing loader old new account class_account is class_is serves its =
    let both = both_served_by_pool its.before old.knows account class_account its.known serves in record {
      sound = its.sound;
      both = subst (λ (a : AccountState). ServesBoth ServesIn its.before a (account_in Class loader)) is
          (subst (λ (a : AccountState). ServesBoth ServesIn its.before account a) class_is both);
      closed = its.called ∙ ap (λ (a : AccountState). with_both_closed its.before a class_account) is
          ∙ ap (λ (a : AccountState). with_both_closed its.before (account_in NonClass loader) a) class_is;
    }

-- Acts, one after another.
said_more : (acts : List Act) (act : Act) → said_of (acts ++ act ∷ []) ≡ said_of acts ++ act.0 ∷ []
said_more [] act = refl
said_more (one ∷ acts) act = ap (λ (l : List Said). one.0 ∷ l) (said_more acts act)

events_more : (acts : List Act) (act : Act) → events_by (acts ++ act ∷ []) ≡ events_by acts ++ act.1
events_more [] act = append-nil act.1
events_more (one ∷ acts) act = ap (λ (l : List Event). one.1 ++ l) (events_more acts act)
    ∙ sym (append_assoc one.1 (events_by acts) act.1)

works_more : (before : List (ℕ × LoaderView)) (acts : List Act) (old : List (ℕ × LoaderView)) (act : Act)
    (new : List (ℕ × LoaderView)) → Works before acts old → IsAct old act new → Works before (acts ++ act ∷ []) new
works_more before [] old act new so_far more =
    (new, subst (λ (l : List (ℕ × LoaderView)). IsAct l act new) so_far more, refl)
works_more before (one ∷ acts) old act new so_far more =
    (so_far.0, so_far.1, works_more so_far.0 acts old act new so_far.2 more)

pub acted_none : (seat : SeatState) (loaders : List (ℕ × LoaderView)) → HasActed seat seat loaders [] loaders
acted_none seat loaders = record {
  acts = [];
  works = refl;
  said_are = refl;
  events = sym (append-nil seat.events);
  number = refl;
}

pub acted_more : (first old new : SeatState) (before mid after : List (ℕ × LoaderView)) (said : List Said) (step : Step)
    (reply : Reply) → HasActed first old before said mid → HasMade old new (Makes mid step reply after)
    → IsOwnStep mid (step, reply) after
    → HasActed first new before (said ++ (step, reply) ∷ []) after
acted_more first old new before mid after said step reply acted more own =
    let act : Act = ((step, reply), more.made) in record {
      acts = acted.acts ++ act ∷ [];
      works = works_more before acted.acts mid act after acted.works
          (record { loaders = own; made = more.are_so; sound = more.sound });
      said_are = said_more acted.acts act ∙ ap (λ (l : List Said). l ++ (step, reply) ∷ []) acted.said_are;
      events = more.events ∙ ap (λ (l : List Event). l ++ more.made) acted.events
          ∙ append_assoc first.events (events_by acted.acts) more.made
          ∙ ap (λ (l : List Event). first.events ++ l) (sym (events_more acted.acts act));
      number = more.number ∙ acted.number;
    }

-- Each step over the lock: a loader's words and blocks, its end, a purge, and all steps together.
-- For `answer` in metering.rt.
use Rattle.std.proofs.Common.{◌≡◌, ◌≢◌, ℕ, Bool, false, Option, Some, List, inl, inr, refl, sym, ap, ◌∙◌, subst}
use Rattle.std.proofs.lemmas.Bool.{cases_eq}
use Rattle.ms_base.specs.declared.kind.Space.TheVariants.{NonClass, Class}
use Rattle.ms_base.specs.declared.refusal.Refusal.{Refusal}
use Rattle.ms_base.specs.declared.refusal.Refusal.TheVariants.{NoLoader}
use Rattle.ms_base.specs.declared.step.Step.{Step}
use Rattle.ms_base.specs.declared.step.Step.TheVariants.{New, Alloc, Calloc, Write, Read, Free, Unload, Purge}
use Rattle.ms_base.specs.declared.step.Reply.{Reply}
use Rattle.ms_base.specs.declared.step.Reply.TheVariants.{Ok as Done, At, Value, Refused}
use Rattle.ms_base.specs.Run.Alone.{OwnReply}
use Rattle.ms_base.specs.Names.{named}
use Rattle.ms_base.specs.Request.{loader_of}
use Rattle.ms_base.proofs.entries.LookupLemmas.{named_changed_same, named_without_other}
use Rattle.ms_pool.specs.Ledger.{Ledger, opened_in}
use Rattle.ms_pool.proofs.ledger.ClosedLemmas.{purged_leaves_served}
use Rattle.ms_loader.specs.Loader.{LoaderView, WritesWord, FreesBlock, HasWord, LacksWord, LacksName}
use Rattle.ms_loaders.specs.Serving.{MayServe, Served, ChangesOne, LooksAt, IsLacking, FindsNone, ClosesLoader}
use Rattle.ms_loaders.specs.System.{states_of}
use Rattle.ms_loader_map.specs.Used.{used_at}
use Rattle.ms_shared.specs.SeatView.{SeatState, ServesBy, opened_by}
use Rattle.ms_shared.specs.LockCalls.{PurgedOver}
use Rattle.ms_shared.proofs.LockCallLemmas.{served_by_pool, serves_then, counts_stay}
use Rattle.ms_shared.proofs.LockCloseLemmas.{both_known}
use Rattle.ms_base.specs.Run.Own.{own_in}
use Rattle.ms_run.specs.Acts.{HasMade, Makes, Touches, Once, OfLoader, IsClosing, IsPurging}
use Rattle.ms_run.specs.Manned.{IsManned}
use Rattle.ms_run.specs.Metering.{MovesNoTop}
use Rattle.ms_run.proofs.ActLemmas.{made_none, made_one, is_closing}
use Rattle.ms_run.proofs.AnswerLemmas.{OfOne, lock_calls, call_of, closes_of, refuses, makes, makes_none, allocates_at}
use Rattle.ms_run.proofs.AnswerLemmas.{allocates_none}
use Rattle.ms_run.proofs.lifetimes.LifetimeCloseLemmas.{counts_some, manned_closed}
use Rattle.ms_run.proofs.lifetimes.LifetimeReplyLemmas.{unloaded_reply, none_reply}
use Rattle.ms_run.proofs.SeatStaysLemmas.{own_is_served}
use Rattle.ms_run.proofs.ServeLemmas.{purged_manned}
use Rattle.ms_run.proofs.TouchLemmas.{own_missing, own_written, own_freed_in, own_read, own_not_read, own_found}
use Rattle.ms_run.proofs.TouchLemmas.{write_refused, free_refused, others_stay, written_keeps, freed_keeps_seats}
use Rattle.ms_run.proofs.TouchLemmas.{written_uses, freed_uses}

-- What a step owes.
pub record IsAnswer (old : SeatState) (loaders : List (ℕ × LoaderView)) (step : Step) (reply : Reply)
    (new : SeatState) (others : List (ℕ × LoaderView)) : Type 0 where
  pub manned : IsManned new.knows others
  pub own : (name : ℕ) → loader_of step ≡ Some name → (want : Bool)
      × OwnReply (own_in (states_of loaders) name) step want reply (own_in (states_of others) name)
  pub rest : (name : ℕ) → loader_of step ≢ Some name → named others name ≡ named loaders name
  pub purge : step ≡ Purge → reply ≡ Done
  pub made : HasMade old new (Makes loaders step reply others)
  pub touches : Touches loaders step reply others
  pub used : MovesNoTop step → (name : ℕ) → used_at (named others name) ≡ used_at (named loaders name)

of_one : (name : ℕ) (old : SeatState) (loaders : List (ℕ × LoaderView)) (step : Step) (reply : Reply) (new : SeatState)
    (others : List (ℕ × LoaderView)) → loader_of step ≡ Some name
    → OfOne name old loaders step reply new others → IsAnswer old loaders step reply new others
of_one name old loaders step reply new others names its = record {
  manned = its.manned;
  own = λ one is. subst (λ (n : ℕ). (want : Bool)
      × OwnReply (own_in (states_of loaders) n) step want reply (own_in (states_of others) n))
      (same name one (sym names ∙ is)) its.own;
  rest = λ one differs. its.rest one (λ e. differs (names ∙ ap Some (sym e)));
  purge = λ is. absurd (let none = sym names ∙ ap loader_of is in cc);
  made = its.made;
  touches = its.touches;
  used = λ still one. elim (cases_eq one name) [
    | inl e ↦ subst (λ (n : ℕ). used_at (named others n) ≡ used_at (named loaders n)) (sym e) (its.used still)
    | inr differs ↦ ap used_at (its.rest one differs)
  ];
}
  where
    some : ℕ → Option ℕ
    some n = Some n

    same : (a b : ℕ) → some a ≡ some b → a ≡ b
    same a b e = cc

module _ (old : SeatState) (loaders : List (ℕ × LoaderView)) (manned : IsManned old.knows loaders) where
  -- Words and blocks.
  writes : (name block index value : ℕ) (others : List (ℕ × LoaderView))
      → ChangesOne loaders name (λ was is. WritesWord was block index value is) others
      → OfOne name old loaders (Write name block index value) Done old others
  writes name block index value others its =
      subst (λ (l : List (ℕ × LoaderView)). OfOne name old loaders (Write name block index value) Done old l)
      (sym its.changed) (record {
        manned = written_keeps loaders name its.was its.is its.found block index value its.owners its.sound its.so old.knows
            manned;
        own = (false, own_written loaders name block its.was its.is its.found index value its.so);
        rest = others_stay loaders name its.is;
        made = made_none old _ refl;
        touches = record {
          was = its.was;
          is = its.is;
          found = its.found;
          after = named_changed_same loaders name its.was its.is its.found;
          owners = its.owners;
          sound = its.sound;
          so = its.so;
        };
        used = λ still. written_uses loaders name its.was its.is its.found block index value its.so;
      })

  frees : (name block : ℕ) (others : List (ℕ × LoaderView))
      → ChangesOne loaders name (λ was is. FreesBlock was block is) others
      → OfOne name old loaders (Free name block) Done old others
  frees name block others its =
      subst (λ (l : List (ℕ × LoaderView)). OfOne name old loaders (Free name block) Done old l)
      (sym its.changed) (record {
        manned = freed_keeps_seats loaders name its.was its.is its.found block its.owners its.sound its.so old.knows manned;
        own = (false, own_freed_in loaders name block its.was its.is its.found its.so);
        rest = others_stay loaders name its.is;
        made = made_none old _ refl;
        touches = record {
          was = its.was;
          is = its.is;
          found = its.found;
          after = named_changed_same loaders name its.was its.is its.found;
          owners = its.owners;
          sound = its.sound;
          so = its.so;
        };
        used = λ still. freed_uses loaders name its.was its.is its.found block its.so;
      })

  not_written : (name block index value : ℕ) (refusal : Refusal) (others : List (ℕ × LoaderView))
      → IsLacking loaders name (λ loader why. LacksWord loader block index why) refusal others
      → OfOne name old loaders (Write name block index value) (Refused refusal) old others
  not_written name block index value refusal others (inl none) =
      rw (none.refusal_is, none.same)
      (refuses old loaders manned name (Write name block index value) NoLoader
      (false, rw (own_missing loaders name none.none) refl) refl)
  not_written name block index value refusal others (inr lacks) =
      rw lacks.same
      (refuses old loaders manned name (Write name block index value) refusal (
        false,
        rw (own_found loaders name lacks.loader lacks.found)
            (write_refused name block index value lacks.loader.state refusal lacks.so),
      ) refl)

  not_read : (name block index : ℕ) (refusal : Refusal) (others : List (ℕ × LoaderView))
      → IsLacking loaders name (λ loader why. LacksWord loader block index why) refusal others
      → OfOne name old loaders (Read name block index) (Refused refusal) old others
  not_read name block index refusal others (inl none) =
      rw (none.refusal_is, none.same)
      (refuses old loaders manned name (Read name block index) NoLoader
      (false, rw (own_missing loaders name none.none) refl) refl)
  not_read name block index refusal others (inr lacks) =
      rw lacks.same
      (refuses old loaders manned name (Read name block index) refusal
      (false, own_not_read loaders name block index refusal lacks.loader lacks.found lacks.so) refl)

  not_freed : (name block : ℕ) (refusal : Refusal) (others : List (ℕ × LoaderView))
      → IsLacking loaders name (λ loader why. LacksName loader block why) refusal others
      → OfOne name old loaders (Free name block) (Refused refusal) old others
  not_freed name block refusal others (inl none) =
      rw (none.refusal_is, none.same)
      (refuses old loaders manned name (Free name block) NoLoader
      (false, rw (own_missing loaders name none.none) refl) refl)
  not_freed name block refusal others (inr lacks) =
      rw lacks.same
      (refuses old loaders manned name (Free name block) refusal (
        false,
        rw (own_found loaders name lacks.loader lacks.found)
            (free_refused name block lacks.loader.state refusal lacks.so),
      ) refl)

  reads : (name block index value : ℕ) (others : List (ℕ × LoaderView))
      → LooksAt loaders name (λ loader. HasWord loader block index value) others
      → OfOne name old loaders (Read name block index) (Value value) old others
  reads name block index value others has = rw has.same (record {
    manned = manned;
    own = (false, own_read loaders name block index value has.loader has.found has.so);
    rest = λ other differs. refl;
    made = made_none old _ refl;
    touches = refl;
    used = λ still. refl;
  })

  -- A loader's end.
  unloads : (name : ℕ) (new : SeatState) (others : List (ℕ × LoaderView))
      → ClosesLoader lock_calls loaders name old others new
      → OfOne name old loaders (Unload name) Done new others
  unloads name new others its =
      let v = its.loader in
      let closes = closes_of v old new (counts_some loaders name v its.found old.knows manned) its.closed in
      subst (λ (l : List (ℕ × LoaderView)). OfOne name old loaders (Unload name) Done new l) (sym its.gone) (record {
        manned = manned_closed loaders name v its.found old new closes manned;
        own = (false, unloaded_reply loaders name v manned.names its.found);
        rest = λ other differs. named_without_other loaders name other (λ e. differs (sym e));
        made = subst (λ (loader : Option LoaderView). HasMade old new (Once (OfLoader loader IsClosing))) (sym its.found)
            (made_one old new its.closed.event (Once (IsClosing v))
            (is_closing v old new _ _ refl refl (both_known old _ _ its.both) its.closed.event));
        touches = tt;
        used = λ still. absurd still;
      })

  not_unloaded : (name : ℕ) (refusal : Refusal) (others : List (ℕ × LoaderView))
      → FindsNone loaders name refusal others
      → OfOne name old loaders (Unload name) (Refused refusal) old others
  not_unloaded name refusal others none =
      rw (none.refusal_is, none.same)
      (refuses old loaders manned name (Unload name) NoLoader (false, none_reply loaders name none.none) refl)

  -- A purge.
  purges : (gone : ℕ) (new : SeatState) → PurgedOver old gone new → IsAnswer old loaders Purge Done new loaders
  purges gone new its =
      let event = its.event in let call = call_of old new event in record {
        manned = purged_manned loaders old new gone event
            (λ account served. serves_then old new _ _ call account account served refl
            (purged_leaves_served event.before gone event.after account event.called
            (served_by_pool event.before old.knows account event.known served)))
            (counts_stay old new _ _ call (ap (λ (l : Ledger). opened_in l) event.called.1)) manned;
        own = λ name is. absurd (cc);
        rest = λ name differs. refl;
        purge = λ is. refl;
        made = made_one old new event (Once IsPurging) (gone, event.called);
        touches = refl;
        used = λ still name. refl;
      }

-- What a step asks of a seat: it serves each loader, and counts its accounts.
pub may_serve : (seat : SeatState) (loaders : List (ℕ × LoaderView)) → IsManned seat.knows loaders
    → MayServe (λ (one : SeatState). ServesBy one.knows) (λ one. opened_by one.knows) seat loaders
may_serve seat loaders its = record {
  served = λ name loader found space. own_is_served space seat.knows loaders name loader found its;
  counted = λ name loader found. counts_some loaders name loader found seat.knows its;
}

-- So each step is answered.
pub answered : (old : SeatState) (loaders : List (ℕ × LoaderView)) (step : Step) (reply : Reply) (new : SeatState)
    (others : List (ℕ × LoaderView)) → IsManned old.knows loaders
    → Served lock_calls loaders step reply old others new
    → IsAnswer old loaders step reply new others
answered old loaders (New name kind) Done new others manned its =
    of_one name _ _ _ _ _ _ refl (makes old loaders manned name kind new others its)
answered old loaders (New name kind) (Refused refusal) new others manned (its, same) =
    rw same (of_one name _ _ _ _ _ _ refl (makes_none old loaders manned name kind refusal new its))
answered old loaders (Alloc name block words) (At start) new others manned its =
    of_one name _ _ _ _ _ _ refl (allocates_at old loaders manned NonClass name block words start new others its)
answered old loaders (Alloc name block words) (Refused refusal) new others manned its =
    of_one name _ _ _ _ _ _ refl (allocates_none old loaders manned NonClass name block words refusal new others its)
answered old loaders (Calloc name block words) (At start) new others manned its =
    of_one name _ _ _ _ _ _ refl (allocates_at old loaders manned Class name block words start new others its)
answered old loaders (Calloc name block words) (Refused refusal) new others manned its =
    of_one name _ _ _ _ _ _ refl (allocates_none old loaders manned Class name block words refusal new others its)
answered old loaders (Write name block index value) Done new others manned (its, same) =
    rw same (of_one name _ _ _ _ _ _ refl (writes old loaders manned name block index value others its))
answered old loaders (Write name block index value) (Refused refusal) new others manned (its, same) =
    rw same (of_one name _ _ _ _ _ _ refl (not_written old loaders manned name block index value refusal others its))
answered old loaders (Read name block index) (Value value) new others manned (its, same) =
    rw same (of_one name _ _ _ _ _ _ refl (reads old loaders manned name block index value others its))
answered old loaders (Read name block index) (Refused refusal) new others manned (its, same) =
    rw same (of_one name _ _ _ _ _ _ refl (not_read old loaders manned name block index refusal others its))
answered old loaders (Free name block) Done new others manned (its, same) =
    rw same (of_one name _ _ _ _ _ _ refl (frees old loaders manned name block others its))
answered old loaders (Free name block) (Refused refusal) new others manned (its, same) =
    rw same (of_one name _ _ _ _ _ _ refl (not_freed old loaders manned name block refusal others its))
answered old loaders (Unload name) Done new others manned its =
    of_one name _ _ _ _ _ _ refl (unloads old loaders manned name new others its)
answered old loaders (Unload name) (Refused refusal) new others manned (its, same) =
    rw same (of_one name _ _ _ _ _ _ refl (not_unloaded old loaders manned name refusal others its))
answered old loaders Purge Done new others manned (its, same) =
    rw same (purges old loaders manned its.0 new its.1)
answered old loaders Purge (Refused refusal) new others manned its = absurd its
answered old loaders (Write name block index value) _ new others manned its = absurd its.0
answered old loaders (Read name block index) _ new others manned its = absurd its.0
answered old loaders (Free name block) _ new others manned its = absurd its.0
answered old loaders _ _ new others manned its = absurd its

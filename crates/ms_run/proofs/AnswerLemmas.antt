-- A step over the lock, from what it is over any source: the seat and its loaders after it, its
-- events, and that the reply is its loader's own. For `answer` in metering.rt.
use Rattle.std.proofs.Common.{◌≡◌, ◌≢◌, ◌<◌, ℕ, Bool, true, false, Option, Some, None, Result, Ok, Err, List, []}
use Rattle.std.proofs.Common.{inl, inr, refl, sym, ap, ◌∙◌, subst}
use Rattle.ms_base.specs.declared.kind.Kind.{Kind}
use Rattle.ms_base.specs.declared.kind.Space.{Space}
use Rattle.ms_base.specs.declared.kind.Space.TheVariants.{NonClass, Class}
use Rattle.ms_base.specs.declared.span.Block.{Block}
use Rattle.ms_base.specs.declared.refusal.Refusal.{Refusal}
use Rattle.ms_base.specs.declared.refusal.Refusal.TheVariants.{NoLoader, LoaderExists, OutOfMemory}
use Rattle.ms_base.specs.declared.step.Step.{Step}
use Rattle.ms_base.specs.declared.step.Step.TheVariants.{New}
use Rattle.ms_base.specs.declared.step.Reply.{Reply}
use Rattle.ms_base.specs.declared.step.Reply.TheVariants.{Ok as Done, At, Refused}
use Rattle.ms_base.specs.Run.Alone.{OwnReply}
use Rattle.ms_base.specs.Names.{named, with_new}
use Rattle.ms_base.specs.Request.{alloc_in}
use Rattle.ms_base.proofs.entries.LookupLemmas.{named_new_same, named_new_other, named_changed_same}
use Rattle.ms_pool.specs.Account.{AccountState}
use Rattle.ms_pool.specs.Ledger.{Ledger}
use Rattle.ms_loader.specs.Loader.{LoaderView, account_in, new_loader}
use Rattle.ms_loaders.specs.Serving.{SourceCalls, calls_of, MakesLoader, MakesInVain, MakesNone}
use Rattle.ms_loaders.specs.Serving.{AllocatesIn, AllocatesAt, AllocatesNone}
use Rattle.ms_loaders.specs.System.{states_of}
use Rattle.ms_loader_map.specs.Used.{used_at}
use Rattle.ms_loaders.proofs.steps.CallLemmas.{same_loaders}
use Rattle.ms_shared.specs.SeatView.{SeatState, ServesBy, OverLock, opened_by}
use Rattle.ms_shared.specs.LockCalls.{TookOver, GrewOver, OpenedBothOver, ClosedBothOver, PurgedOver}
use Rattle.ms_shared.proofs.LockCallLemmas.{IsCall, served_by_pool, serves_then, close_both_counts}
use Rattle.ms_shared.proofs.LockOpenLemmas.{open_both_serve, class_open_both_serve, open_both_others, open_both_counts}
use Rattle.ms_shared.proofs.LockCloseLemmas.{closes_both, both_known}
use Rattle.ms_base.specs.Run.Own.{own_in}
use Rattle.ms_run.specs.Acts.{HasMade, Makes, Touches, AsksOf, Once, OfLoader, IsOpening, LacksLoader, start_of}
use Rattle.ms_run.specs.Manned.{IsManned}
use Rattle.ms_run.specs.Metering.{MovesNoTop}
use Rattle.ms_run.proofs.ActLemmas.{made_none, made_one, made_two, is_closing}
use Rattle.ms_run.proofs.AllocActLemmas.{block_made}
use Rattle.ms_run.proofs.grants.GrantLemmas.{replies_without, replies_at, replies_why}
use Rattle.ms_run.proofs.lifetimes.LifetimeOpenLemmas.{manned_refused, manned_opened}
use Rattle.ms_run.proofs.lifetimes.LifetimeCloseLemmas.{Closes, counts_some, manned_closed, new_then_without}
use Rattle.ms_run.proofs.lifetimes.LifetimeReplyLemmas.{exists_reply, numbers_reply, made_reply}
use Rattle.ms_run.proofs.SeatStaysLemmas.{own_is_served, manned_after}
use Rattle.ms_run.proofs.TouchLemmas.{own_found, own_missing, others_stay}

-- What a lock says of itself, at a seat.
abbrev pub lock_calls : SourceCalls SeatState
lock_calls = calls_of (λ (seat : SeatState). ServesBy seat.knows) (λ seat. opened_by seat.knows)
    (λ seat. seat.knows.limits) GrewOver TookOver OpenedBothOver ClosedBothOver PurgedOver

-- A step that names a loader: what it leaves of that one, and of the others.
pub record OfOne (name : ℕ) (old : SeatState) (loaders : List (ℕ × LoaderView)) (step : Step) (reply : Reply)
    (new : SeatState) (others : List (ℕ × LoaderView)) : Type 0 where
  pub manned : IsManned new.knows others
  pub own : (want : Bool)
      × OwnReply (own_in (states_of loaders) name) step want reply (own_in (states_of others) name)
  pub rest : (other : ℕ) → other ≢ name → named others other ≡ named loaders other
  pub made : HasMade old new (Makes loaders step reply others)
  pub touches : Touches loaders step reply others
  pub used : MovesNoTop step → used_at (named others name) ≡ used_at (named loaders name)

pub call_of : {event : Ledger → Ledger → Type 0} (old new : SeatState) (its : OverLock event old new)
    → IsCall old new its.before its.after
call_of old new its = record { sound = its.sound; sound_after = its.sound_after; known = its.known; left = its.left }

-- Both accounts of a loader are closed over the lock.
pub closes_of : (v : LoaderView) (old new : SeatState) → ((space : Space) → 0 < opened_by old.knows space)
    → ClosedBothOver old (account_in NonClass v) (account_in Class v) new
    → Closes old new (account_in NonClass v) (account_in Class v)
closes_of v old new some closed =
    let call = call_of old new closed.event in
    let well =
    closes_both closed.event.before old.knows (account_in NonClass v) (account_in Class v) closed.event.after
    closed.event.sound closed.event.known some closed.event.called in record {
      event = closed.event;
      others = λ other differs too its. serves_then old new _ _ call other other its refl
          (well.others other differs too (served_by_pool closed.event.before old.knows other closed.event.known its));
      counted = close_both_counts old new _ _ call _ _ some well;
    }

module _ (old : SeatState) (loaders : List (ℕ × LoaderView)) (manned : IsManned old.knows loaders) where
  -- The lock isn't called, and nothing changes.
  pub refuses : (name : ℕ) (step : Step) (refusal : Refusal)
      → (want : Bool)
      × OwnReply (own_in (states_of loaders) name) step want (Refused refusal) (own_in (states_of loaders) name)
      → Makes loaders step (Refused refusal) loaders []
      → OfOne name old loaders step (Refused refusal) old loaders
  refuses name step refusal own made = record {
    manned = manned;
    own = own;
    rest = λ other differs. refl;
    made = made_none old (Makes loaders step (Refused refusal) loaders) made;
    touches = refl;
    used = λ still. refl;
  }

  -- A loader is made.
  opens : (name : ℕ) (kind : Kind) (accounts : AccountState × AccountState) (new : SeatState)
      → named loaders name ≡ None → OpenedBothOver old (Ok accounts) new
      → IsManned new.knows (with_new loaders name (new_loader accounts.0 accounts.1 kind))
  opens name kind accounts new unused opened =
      let event = opened.event in let call = call_of old new event in
      manned_opened old new loaders name kind accounts unused event
      (open_both_serve old new _ _ call (Ok accounts) event.called)
      (class_open_both_serve old new _ _ call (Ok accounts) event.called)
      (open_both_others old new _ _ call (Ok accounts) event.called)
      (open_both_counts old new _ _ call (Ok accounts) event.called) manned

  pub makes : (name : ℕ) (kind : Kind) (new : SeatState) (others : List (ℕ × LoaderView))
      → MakesLoader lock_calls loaders name kind old others new
      → OfOne name old loaders (New name kind) Done new others
  makes name kind new others its =
      let v = new_loader its.accounts.0 its.accounts.1 kind in let now = named_new_same loaders name v in
      subst (λ (l : List (ℕ × LoaderView)). OfOne name old loaders (New name kind) Done new l) (sym its.added) (record {
        manned = opens name kind its.accounts new its.unused its.opened;
        own = (
          false,
          made_reply (own_in (states_of loaders) name) (own_in (states_of (with_new loaders name v)) name) name kind
              (own_missing loaders name its.unused) (own_found (with_new loaders name v) name v now),
        );
        rest = λ other differs. named_new_other loaders name v other (λ e. differs (sym e));
        made = subst (λ (loader : Option LoaderView). HasMade old new (Once (OfLoader loader (IsOpening kind))))
            (sym now)
            (made_one old new its.opened.event (Once (IsOpening kind v)) (its.accounts, refl, its.opened.event.called));
        touches = tt;
        used = λ still. ap used_at now ∙ sym (ap used_at its.unused);
      })

  -- Owner numbers are wanting.
  lacks_numbers : (name : ℕ) (kind : Kind) (refusal : Refusal) (new : SeatState) → named loaders name ≡ None
      → OpenedBothOver old (Err refusal) new → OfOne name old loaders (New name kind) (Refused refusal) new loaders
  lacks_numbers name kind refusal new unused refused =
      let event = refused.event in let call = call_of old new event in record {
        manned = manned_refused old new loaders refusal event
            (open_both_others old new _ _ call (Err refusal) event.called)
            (open_both_counts old new _ _ call (Err refusal) event.called) manned;
        own = numbers_reply (own_in (states_of loaders) name) refusal name kind (own_missing loaders name unused)
            event.called.0;
        rest = λ other differs. refl;
        made = made_one old new event (LacksLoader kind refusal) event.called;
        touches = refl;
        used = λ still. refl;
      }

  -- Memory is wanting.
  lacks_memory : (name : ℕ) (kind : Kind) (new : SeatState) → MakesInVain lock_calls loaders name kind old new
      → OfOne name old loaders (New name kind) (Refused OutOfMemory) new loaders
  lacks_memory name kind new its =
      let v = new_loader its.accounts.0 its.accounts.1 kind in let mid = its.middle in
      let first = its.opened.event in let now = named_new_same loaders name v in
      let then = opens name kind its.accounts mid its.unused its.opened in
      let closes = closes_of v mid new (counts_some (with_new loaders name v) name v now mid.knows then) its.closed in
      record {
        manned = subst (IsManned new.knows) (new_then_without loaders name v its.unused)
            (manned_closed (with_new loaders name v) name v now mid new closes then);
        own = subst (λ (o : Option _). (want : Bool) × OwnReply o (New name kind) want (Refused OutOfMemory) o)
            (sym (own_missing loaders name its.unused)) (true, (tt, tt, refl));
        rest = λ other differs. refl;
        made = made_two old mid new first its.closed.event (LacksLoader kind OutOfMemory) (
          refl,
          v,
          (its.accounts, refl, first.called),
          is_closing v mid new (account_in NonClass v) (account_in Class v) refl refl (both_known mid _ _ its.both)
              its.closed.event,
        );
        touches = refl;
        used = λ still. refl;
      }

  pub makes_none : (name : ℕ) (kind : Kind) (refusal : Refusal) (new : SeatState)
      → MakesNone lock_calls loaders name kind old refusal new
      → OfOne name old loaders (New name kind) (Refused refusal) new loaders
  makes_none name kind refusal new (inl used) =
      subst (λ (r : Refusal). OfOne name old loaders (New name kind) (Refused r) new loaders) (sym used.0)
      (subst (λ (s : SeatState). OfOne name old loaders (New name kind) (Refused LoaderExists) s loaders) (sym used.2)
      (refuses name (New name kind) LoaderExists (exists_reply loaders name kind used.1.0 used.1.1) refl))
  makes_none name kind refusal new (inr (inl numbers)) = lacks_numbers name kind refusal new numbers.0 numbers.1
  makes_none name kind refusal new (inr (inr memory)) =
      subst (λ (r : Refusal). OfOne name old loaders (New name kind) (Refused r) new loaders) (sym memory.0)
      (lacks_memory name kind new memory.1)

  -- A block is allocated, or is not.
  asks : (space : Space) (name block words : ℕ) (answer : Result Block Refusal) (new : SeatState)
      (others : List (ℕ × LoaderView)) → AllocatesIn lock_calls space loaders name block words old answer others new
      → HasMade old new (AsksOf (named loaders name) (named others name) space block words (start_of answer))
  asks space name block words answer new others its =
      subst (λ (loader : Option LoaderView). HasMade old new
      (AsksOf (named loaders name) loader space block words (start_of answer)))
      (sym (ap (λ (l : List (ℕ × LoaderView)). named l name) its.changed
      ∙ named_changed_same loaders name its.was its.is its.found))
      (subst (λ (loader : Option LoaderView). HasMade old new
      (AsksOf loader (Some its.is) space block words (start_of answer))) (sym its.found)
      (block_made space old.knows.limits.policy its.was its.is block words old new answer its.allocates refl
      (own_is_served space old.knows loaders name its.was its.found manned)))

  asked : (space : Space) (name block words : ℕ) (answer : Result Block Refusal) (new : SeatState)
      (others : List (ℕ × LoaderView)) → AllocatesIn lock_calls space loaders name block words old answer others new
      → IsManned new.knows others
  asked space name block words answer new others its =
      subst (IsManned new.knows) (sym its.changed)
      (manned_after space old new old.knows.limits.policy loaders name block words its.was its.is answer its.found
      its.allocates its.served its.rest its.sound manned)

  stay : (space : Space) (name block words : ℕ) (answer : Result Block Refusal) (new : SeatState)
      (others : List (ℕ × LoaderView)) → AllocatesIn lock_calls space loaders name block words old answer others new
      → (other : ℕ) → other ≢ name → named others other ≡ named loaders other
  stay space name block words answer new others its other differs =
      ap (λ (l : List (ℕ × LoaderView)). named l other) its.changed ∙ others_stay loaders name its.is other differs

  pub allocates_at : (space : Space) (name block words start : ℕ) (new : SeatState) (others : List (ℕ × LoaderView))
      → AllocatesAt lock_calls space loaders name block words old start others new
      → OfOne name old loaders (alloc_in space name block words) (At start) new others
  allocates_at space name block words start new others (made, is, its) =
      subst (λ (n : ℕ). OfOne name old loaders (alloc_in space name block words) (At n) new others) (sym is)
      (go space its)
    where
      own : (space : Space) → (its : AllocatesIn lock_calls space loaders name block words old (Ok made) others new)
          → OwnReply (own_in (states_of loaders) name) (alloc_in space name block words) false (At made.start)
          (own_in (states_of others) name)
      own space its =
          subst (λ (l : List (ℕ × LoaderView)). OwnReply (own_in (states_of loaders) name)
          (alloc_in space name block words) false (At made.start) (own_in (states_of l) name)) (sym its.changed)
          (replies_at space old.knows.limits.policy old new loaders name block words its.was its.is (Ok made) made refl
          its.found its.allocates its.sound)

      there : (space : Space) → (its : AllocatesIn lock_calls space loaders name block words old (Ok made) others new)
          → named others name ≡ Some its.is
      there space its = ap (λ (l : List (ℕ × LoaderView)). named l name) its.changed
          ∙ named_changed_same loaders name its.was its.is its.found

      go : (space : Space) → AllocatesIn lock_calls space loaders name block words old (Ok made) others new
          → OfOne name old loaders (alloc_in space name block words) (At made.start) new others
      go NonClass its = record {
        manned = asked NonClass name block words (Ok made) new others its;
        own = (false, own NonClass its);
        rest = stay NonClass name block words (Ok made) new others its;
        made = asks NonClass name block words (Ok made) new others its;
        touches = (its.is, there NonClass its, its.sound);
        used = λ still. absurd still;
      }
      go Class its = record {
        manned = asked Class name block words (Ok made) new others its;
        own = (false, own Class its);
        rest = stay Class name block words (Ok made) new others its;
        made = asks Class name block words (Ok made) new others its;
        touches = (its.is, there Class its, its.sound);
        used = λ still. absurd still;
      }

  pub allocates_none : (space : Space) (name block words : ℕ) (refusal : Refusal) (new : SeatState)
      (others : List (ℕ × LoaderView)) → AllocatesNone lock_calls space loaders name block words old refusal others new
      → OfOne name old loaders (alloc_in space name block words) (Refused refusal) new others
  allocates_none space name block words refusal new others (inl (none, same)) =
      subst (λ (r : Refusal). OfOne name old loaders (alloc_in space name block words) (Refused r) new others)
      (sym none.refusal_is)
      (subst (λ (s : SeatState). OfOne name old loaders (alloc_in space name block words) (Refused NoLoader) s others)
      (sym same)
      (subst (λ (l : List (ℕ × LoaderView)). OfOne name old loaders (alloc_in space name block words)
      (Refused NoLoader) old l) (sym none.same)
      (refuses name (alloc_in space name block words) NoLoader
      (false, replies_without space loaders name block words none.none) (go space))))
    where
      go : (space : Space) → Makes loaders (alloc_in space name block words) (Refused NoLoader) loaders []
      go NonClass = subst (λ (loader : Option LoaderView). AsksOf loader loader NonClass block words (Err NoLoader) [])
          (sym none.none) refl
      go Class = subst (λ (loader : Option LoaderView). AsksOf loader loader Class block words (Err NoLoader) [])
          (sym none.none) refl
  allocates_none space name block words refusal new others (inr its) = go space its
    where
      own : (space : Space) → (its : AllocatesIn lock_calls space loaders name block words old (Err refusal) others new)
          → (want : Bool) × OwnReply (own_in (states_of loaders) name) (alloc_in space name block words) want
          (Refused refusal) (own_in (states_of others) name)
      own space its =
          subst (λ (l : List (ℕ × LoaderView)). (want : Bool) × OwnReply (own_in (states_of loaders) name)
          (alloc_in space name block words) want (Refused refusal) (own_in (states_of l) name)) (sym its.changed)
          (replies_why space old.knows.limits.policy old new loaders name block words its.was its.is (Err refusal)
          refusal refl its.found its.allocates)

      same : (space : Space) → (its : AllocatesIn lock_calls space loaders name block words old (Err refusal) others new)
          → others ≡ loaders
      same space its = its.changed ∙ same_loaders loaders name its.was its.is its.found its.unchanged

      go : (space : Space) → AllocatesIn lock_calls space loaders name block words old (Err refusal) others new
          → OfOne name old loaders (alloc_in space name block words) (Refused refusal) new others
      go NonClass its = record {
        manned = asked NonClass name block words (Err refusal) new others its;
        own = own NonClass its;
        rest = stay NonClass name block words (Err refusal) new others its;
        made = asks NonClass name block words (Err refusal) new others its;
        touches = same NonClass its;
        used = λ still. absurd still;
      }
      go Class its = record {
        manned = asked Class name block words (Err refusal) new others its;
        own = own Class its;
        rest = stay Class name block words (Err refusal) new others its;
        made = asks Class name block words (Err refusal) new others its;
        touches = same Class its;
        used = λ still. absurd still;
      }

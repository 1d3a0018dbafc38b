-- A seat that has the pool makes an event of each call, and puts the pool back with none more: both
-- keep the rule of the lock. For `note`, `put_back` and the calls of HeldPool.
use Rattle.std.proofs.Common.{◌≡◌, ℕ, ◌-◌, ◌%◌, ◌^◌, ◌<◌, List, [], ◌++◌, zero, suc, length}
use Rattle.std.proofs.Common.{◌∷◌, set, slice_index, sym, refl, ap, ◌∙◌, subst, arith, Option, Some, None}
use Rattle.std.proofs.Common.{length-set, get_or-set_same, set-set}
use Rattle.std.specs.List.{sum_by}
use mathlib.Core.Option.{Option as Home, some, none, some-ne-none}
use lib.ListN.{get_elem?}
use Rattle.atomic_table.specs.Table.{State, keeps, gives, Allows}
use Rattle.atomic_table.proofs.Lists.{set_here}
use Rattle.std.specs.Prelude.{Result, Ok, Err, IfOk}
use Rattle.ms_base.specs.declared.refusal.Refusal.{Refusal}
use Rattle.ms_pool.specs.Account.{AccountState}
use Rattle.ms_pool.specs.Source.{LeavesRest, ServesBoth}
use Rattle.ms_pool.specs.Ledger.{Ledger, IsSoundLedger}
use Rattle.atomic_table.specs.Seated.{TableId}
use Rattle.ms_shared.specs.declared.lock_rule.SeatView.{SeatView}
use Rattle.ms_shared.specs.declared.lock_rule.LockView.{LockView}
use Rattle.ms_shared.specs.Entries.{times, refreshed, fresh}
use Rattle.ms_shared.specs.History.{IsOne, Strand, extended}
use Rattle.ms_shared.specs.SeatView.{SeatState, ServesBy, seat_of, tally_of, opened_by, IsKnown, view_after, HeldState, IsEvent}
use Rattle.ms_shared.specs.LockRule.{IsLocked, Sat, Moves, after, has_pool, count_some, some_pool, taken_of, with_pool}
use Rattle.ms_shared.specs.LockRule.{noted, without_pool, Fits}
use Rattle.ms_shared.proofs.LoggedLemmas.{each_set, logged_kept}
use Rattle.ms_shared.proofs.LetGoLemmas.{put_back_now, put_back_pool, opened_after, nobody_has}
use Rattle.ms_shared.proofs.LockLemmas.{taken_now}
use Rattle.ms_shared.proofs.LockCallLemmas.{IsCall, is_call}
use Rattle.ms_shared.proofs.RecordLemmas.{records_append, refreshed_records, fresh_records}
use Rattle.ms_shared.proofs.TotalLemmas.{total-set, total_at, total_kept}

within : (views : List LockView) (seat : ℕ) (view : LockView) → get_elem? views seat ≡ some view → seat < length views
within [] seat view at = absurd (some-ne-none view (sym at))
within (x ∷ xs) zero view at = omega arith
within (x ∷ xs) (suc seat) view at = let rest = within xs seat view at in omega arith

-- What the seat knows once it has made a call is true of the pool then.
pub known_after : (old new : Ledger) (view : SeatView) → Moves view old new → IsKnown old view
    → IsKnown new (view_after old new view)
known_after old new view moves known = let more = moves.given in record {
  served = records_append new (refreshed new view.served) (fresh new old.given (new.given - old.given))
      (refreshed_records old new moves.given view.served known.served)
      (fresh_records new old.given (new.given - old.given) (omega arith));
  limits = moves.limits ∙ known.limits;
  opened = λ space. let own = opened_after space old new view in let few = known.opened space in omega arith;
}

module _ (made : ℕ) (first : Ledger) (id : ℕ) (view : LockView) where
  -- Words and homes that a held lock may have.
  other_words : (words words' : List ℕ) (homes homes' : List (Home (Option Ledger))) (views : List LockView)
      → length words' ≡ 1 → length homes' ≡ 1
      → slice_index words' 0 ≡ slice_index words 0 → slice_index words 0 ≡ 1
      → IsLocked made first (record { words = words; homes = homes; views = views })
      → IsLocked made first (record { words = words'; homes = homes'; views = views })
  other_words words words' homes homes' views long home same one rule = let bit_is = rule.bit in record {
    pool = rule.pool;
    history = rule.history;
    word = long;
    bit = omega arith;
    home = home;
    lock = rule.lock ∙ sym same;
    free = λ zero_now. absurd (omega arith);
    out = rule.out;
    fits = rule.fits;
    once = rule.once;
    opened = rule.opened;
    tallies = rule.tallies;
    limits_are = rule.limits_are;
    parts = rule.parts;
  }

  module _ (live : 0 < view.parts) where
    -- A call on the pool that the seat has.
    noted_now : (numbered : 0 < length view.strands) (old new : Ledger) (has : view.taken ≡ Some old)
        (moves : Moves view.knows old new) (state : State (Option Ledger) LockView) (rule : IsLocked made first state)
        → get_elem? state.views id ≡ some view
        → IsLocked made first
        (record {
          words = set state.words 0 (slice_index state.words 0);
          homes = state.homes;
          views = set state.views id (with_pool (after view old new) new);
        })
    noted_now numbered old new has moves state rule at =
        let back = put_back_now made first id view live numbered old new has moves state rule at in
        let here = set_here state.views id (after view old new) (within state.views id view at) in
        let long = rule.word in let home_is = rule.home in
        let zero_now = get_or-set_same state.words 0 0 0 (omega arith) in
        let again = subst (λ (pool : Ledger). IsLocked made first
        (record {
          words = set (set state.words 0 0) 0 1;
          homes = set (set state.homes 0 (some (Some new))) 0 none;
          views = set (set state.views id (after view old new)) id (with_pool (after view old new) pool);
        })) (put_back_pool made first id view live numbered old new has moves state rule at)
        (taken_now made first id (after view old new) live refl _ back here zero_now) in
        let some_before : has_pool view ≡ 1 = ap count_some has in
        let own = total_at has_pool state.views id view at in let locks = rule.lock in let bit_is = rule.bit in
        let one : slice_index state.words 0 ≡ 1 = omega arith in
        let kept = get_or-set_same state.words 0 (slice_index state.words 0) 0 (omega arith) in
        let long' = length-set state.words 0 0 in
        let now = get_or-set_same (set state.words 0 0) 0 1 0 (omega arith) in
        subst (λ (views : List LockView). IsLocked made first
        (record { words = set state.words 0 (slice_index state.words 0); homes = state.homes; views = views }))
        (set-set state.views id (after view old new) (with_pool (after view old new) new))
        (other_words _ (set state.words 0 (slice_index state.words 0)) _ state.homes _
        (length-set state.words 0 (slice_index state.words 0) ∙ rule.word) rule.home (kept ∙ one ∙ sym now) now again)

    -- The pool goes back as it is.
    back_now : (pool : Ledger) (has : view.taken ≡ Some pool)
        (state : State (Option Ledger) LockView) (rule : IsLocked made first state)
        → get_elem? state.views id ≡ some view
        → IsLocked made first
        (record {
          words = set state.words 0 0;
          homes = set state.homes 0 (some (Some pool));
          views = set state.views id (without_pool view);
        })
    back_now pool has state rule at =
        let new = without_pool view in let is : pool ≡ rule.pool = rule.out id view pool at has in
        let fits = rule.fits id view at in let long = rule.word in
        let zero_now = get_or-set_same state.words 0 0 0 (omega arith) in let home_is = rule.home in
        let locks = rule.lock in let bit_is = rule.bit in
        let total = total-set has_pool state.views id view new at in
        let own = total_at has_pool state.views id view at in
        let some_before : has_pool view ≡ 1 = ap count_some has in let none_now : has_pool new ≡ 0 = refl in
        let nobody : sum_by has_pool (set state.views id new) ≡ 0 = omega arith in record {
          pool = rule.pool;
          history = logged_kept made first rule.pool state.views id view new refl at rule.history;
          word = length-set state.words 0 0 ∙ rule.word;
          bit = omega arith;
          home = length-set state.homes 0 (some (Some pool)) ∙ rule.home;
          lock = nobody ∙ sym zero_now;
          free = λ zero_then. set_here state.homes 0 (some (Some pool)) (omega arith)
              ∙ ap (λ (p : Ledger). some (some (Some p))) is;
          out = λ seat w taken t q. absurd (nobody_has (set state.views id new) seat w taken nobody t q);
          fits = each_set (Fits rule.pool) state.views id new
              (record { served = fits.served; limits = fits.limits; idle = λ none'. absurd (omega arith) })
              (λ other x t differs. rule.fits other x t);
          once = λ owner. total_kept (λ (v : LockView). times owner v.knows.served) state.views id view new
              refl at ∙ rule.once owner;
          opened = λ space. total_kept (λ (v : LockView). opened_by v.knows space) state.views id view new
              refl at ∙ rule.opened space;
          tallies =
              λ kind. rule.tallies kind
              ∙ ap (λ n. n % 2 ^ 64)
              (sym (total_kept (λ (v : LockView). tally_of kind v.knows.tallies) state.views id view new refl at));
          limits_are = rule.limits_are;
          parts = total_kept (λ (v : LockView). v.parts) state.views id view new refl at ∙ rule.parts;
        }

-- The same for a seat's whole state.
pub notes_at : (made : ℕ) (first : Ledger) (slots id : ℕ) (me : Sat) (new : Ledger) → 0 < me.0.parts
    → 0 < length me.0.strands → me.0.taken ≡ Some (taken_of me.0) → Moves me.0.knows (taken_of me.0) new
    → Allows (IsLocked made first) slots id me 0 (λ n. n) (λ _ n. n ≡ (noted me.0 new, me.1))
notes_at made first slots id me new live numbered has moves state rule wide at fits = (
  noted me.0 new,
  keeps,
  tt,
  noted_now made first id me.0 live numbered (taken_of me.0) new has moves state rule at,
  refl,
)

pub puts_back_at : (made : ℕ) (first : Ledger) (slots id : ℕ) (me : Sat) (pool : Ledger) → 0 < me.0.parts
    → me.0.taken ≡ Some pool → me.1 ≡ (0, Some pool) ∷ []
    → Allows (IsLocked made first) slots id me 0 (λ _. 0) (λ _ n. n ≡ (without_pool me.0, []))
puts_back_at made first slots id me pool live has one_taken =
    subst (λ (taken : List (ℕ × Option Ledger)). Allows (IsLocked made first) slots id (me.0, taken) 0 (λ _. 0)
    (λ _ n. n ≡ (without_pool me.0, []))) (sym one_taken)
    (λ state rule wide at fits.
    (without_pool me.0, gives, tt, back_now made first id me.0 live pool has state rule at, refl))

-- A call on the pool that the seat has is an event on it.
pub is_held_call : (id id' : TableId) (view : LockView) (old : SeatState) (before later : Ledger) (end : Sat)
    (slots : List (ℕ × Option Ledger)) → IsOne view.strands → seat_of id view ≡ old → IsKnown before view.knows
    → IsSoundLedger before → IsSoundLedger later → view.taken ≡ Some before
    → end ≡ (noted view later, slots) → id' ≡ id → IsCall old (seat_of id' end.0) before later
is_held_call id id' view old before later end slots one is known sound sound_after has noted_is same =
    subst (λ (s : SeatState). IsCall old s before later)
    (sym (ap (λ (m : Sat). seat_of id' m.0) noted_is
    ∙ ap (λ (t : Option Ledger). seat_of id' (with_pool (after view (some_pool t) later) later)) has))
    (is_call id id' view old before later (with_pool view before, (0, None) ∷ [])
    (after (with_pool view before) before later, []) one is known sound sound_after refl refl same)

-- What the seat may make of the pool that it has, said of the pool as its view has it.
pub moves_held : (view : LockView) (before later : Ledger) → view.taken ≡ Some before → Moves view.knows before later
    → Moves view.knows (taken_of view) later
moves_held view before later has moves =
    subst (λ (t : Option Ledger). Moves view.knows (some_pool t) later) (sym has) moves

-- The seat has the pool still, as it is then, and what it knows is true of that.
pub still_held : (id lock : TableId) (view : LockView) (before later : Ledger) (end : Sat)
    (slots : List (ℕ × Option Ledger))
    → id ≡ lock → view.taken ≡ Some before → slots ≡ (0, None) ∷ [] → view.parts ≡ 2 → IsOne view.strands
    → end ≡ (noted view later, slots) → (IsKnown (taken_of view) view.knows → IsKnown later end.0.knows)
    → IsKnown before view.knows
    → (id ≡ lock) × (end.1 ≡ (0, None) ∷ []) × (end.0.parts ≡ 2) × (end.0.taken ≡ Some later) × IsOne end.0.strands
    × IsKnown later end.0.knows
still_held id lock view before later end slots own has out two one is known at_first = (
  own,
  ap (λ (m : Sat). m.1) is ∙ out,
  ap (λ (m : Sat). m.0.parts) is ∙ two,
  ap (λ (m : Sat). m.0.taken) is,
  subst (λ (m : Sat). IsOne m.0.strands) (sym is)
      (subst (λ (ss : List Strand). IsOne (extended (taken_of view, later) ss)) (sym one) refl),
  known (subst (λ (t : Option Ledger). IsKnown (some_pool t) view.knows) (sym has) at_first),
)

-- The event of a call on the pool that the seat has.
pub is_event : (was old new : HeldState) → was ≡ old → IsCall old.seat new.seat was.pool new.pool → IsEvent old new
is_event was old new is call =
    ap (λ (s : SeatState). s.events) call.left
    ∙ ap (λ (h : HeldState). old.seat.events ++ (h.pool, new.pool) ∷ []) is

-- What is said of a seat, said of it with the pool that it has.
pub rest_held : (owner : ℕ) (old new : HeldState)
    → LeavesRest (λ (seat : SeatState). ServesBy seat.knows) (λ (seat : SeatState). opened_by seat.knows)
    (λ (seat : SeatState). seat.knows.limits) owner old.seat new.seat
    → LeavesRest (λ (held : HeldState). ServesBy held.seat.knows) (λ (held : HeldState). opened_by held.seat.knows)
    (λ (held : HeldState). held.seat.knows.limits) owner old new
rest_held owner old new rest =
    record { others = rest.others; counted = rest.counted; limits_stay = rest.limits_stay }

pub both_at : (held : HeldState) (account class_account : AccountState)
    → ServesBoth (λ (one : HeldState). ServesBy one.seat.knows) held account class_account
    → ServesBoth (λ (seat : SeatState). ServesBy seat.knows) held.seat account class_account
both_at held account class_account both = record {
  served = both.served;
  class_served = both.class_served;
  space = both.space;
  class_space = both.class_space;
}

pub both_held : (held : HeldState) (result : Result (AccountState × AccountState) Refusal)
    → IfOk result (λ accounts. ServesBoth (λ (seat : SeatState). ServesBy seat.knows) held.seat accounts.0 accounts.1)
    → IfOk result (λ accounts. ServesBoth (λ (one : HeldState). ServesBy one.seat.knows) held accounts.0 accounts.1)
both_held held (Ok accounts) both = record {
  served = both.served;
  class_served = both.class_served;
  space = both.space;
  class_space = both.class_space;
}
both_held held (Err refusal) both = tt

-- Putting the pool back keeps the rule of the lock. For `let_go`.
use Rattle.std.proofs.Common.{◌≡◌, ◌≢◌, ℕ, ◌+◌, ◌-◌, ◌%◌, ◌^◌, ◌<◌, ⊎_elim, ◌==◌, Bool, true, false, cond, List, []}
use Rattle.std.proofs.Common.{◌∷◌, length, set, sym, refl, ap, ◌∙◌, subst, arith, Option, Some, None}
use Rattle.std.proofs.Common.{length-set, get_or-set_same}
use Rattle.std.specs.List.{sum_by}
use mathlib.Core.Option.{some}
use Rattle.std.proofs.lemmas.Bool.{eqb-true, eqb-false}
use lib.ListN.{get_elem?}
use Rattle.atomic_table.specs.Table.{State, gives, Allows}
use Rattle.atomic_table.proofs.Lists.{set_here}
use Rattle.ms_base.specs.declared.kind.Space.{Space}
use Rattle.ms_base.specs.declared.kind.Space.TheVariants.{NonClass, Class}
use Rattle.ms_pool.specs.Tallies.{Tallies, one_more}
use Rattle.ms_pool.specs.Ledger.{Ledger, opened_in}
use Rattle.ms_shared.specs.declared.lock_rule.SeatView.{SeatView}
use Rattle.ms_shared.specs.declared.lock_rule.LockView.{LockView}
use Rattle.ms_shared.specs.Entries.{times, once_given, refreshed, fresh}
use Rattle.ms_shared.specs.SeatView.{TallyKind, commit_of_take, reserve_of_take, commit_of_grow, room_of_grow}
use Rattle.ms_shared.specs.SeatView.{ids_of_open, tally_of, opened_by, raised_with, tallies_after, view_after}
use Rattle.ms_shared.proofs.LoggedLemmas.{each_set, logged_more}
use Rattle.ms_shared.specs.LockRule.{IsLocked, IsLogged, Fits, Sat, has_pool, count_some, Moves, after}
use Rattle.ms_shared.specs.LockRule.{some_pool, taken_of}
use Rattle.ms_shared.proofs.TotalLemmas.{total-set, total_at, total_two, total_kept, mod_shift, mod_in}
use Rattle.ms_shared.proofs.RecordLemmas.{times-append, times-refreshed, times_fresh, records_append, refreshed_records}
use Rattle.ms_shared.proofs.RecordLemmas.{fresh_records, same_records, once_given-le}

-- Where the seat has the pool, no other view serves an owner that its own does.
apart_from : (made : ℕ) (first : Ledger) (state : State (Option Ledger) LockView) (rule : IsLocked made first state)
    (id other : ℕ) (view w : LockView)
    → other ≢ id → get_elem? state.views id ≡ some view
    → get_elem? state.views other ≡ some w → (owner : ℕ) → 0 < times owner w.knows.served
    → times owner view.knows.served ≡ 0
apart_from made first state rule id other view w differs at at' owner there =
    let two = total_two (λ (v : LockView). times owner v.knows.served) state.views other id w view differs at' at in
    let once = rule.once owner in let most = once_given-le owner rule.pool.given in omega arith

others_fit : (old new : Ledger) (view w : LockView) → Moves view.knows old new
    → ((owner : ℕ) → 0 < times owner w.knows.served → times owner view.knows.served ≡ 0) → Fits old w → Fits new w
others_fit old new view w moves apart fits = record {
  served = same_records old new moves.given view.knows.served moves.others w.knows.served apart fits.served;
  limits = λ live. fits.limits live ∙ sym moves.limits;
  idle = fits.idle;
}

own_fits : (old new : Ledger) (view : LockView) → Moves view.knows old new → 0 < view.parts → Fits old view
    → Fits new (after view old new)
own_fits old new view moves live fits = let more = moves.given in record {
  served = records_append new (refreshed new view.knows.served) (fresh new old.given (new.given - old.given))
      (refreshed_records old new moves.given view.knows.served fits.served)
      (fresh_records new old.given (new.given - old.given) (omega arith));
  limits = λ live'. fits.limits live ∙ sym moves.limits;
  idle = λ none'. absurd (omega arith);
}

pub tally_after : (kind : TallyKind) (before after tallies : Tallies)
    → tally_of kind (tallies_after before after tallies)
    ≡ raised_with (tally_of kind before) (tally_of kind after) (tally_of kind tallies)
tally_after commit_of_take before after tallies = refl
tally_after reserve_of_take before after tallies = refl
tally_after commit_of_grow before after tallies = refl
tally_after room_of_grow before after tallies = refl
tally_after ids_of_open before after tallies = refl

pub opened_after : (space : Space) (before after : Ledger) (view : SeatView)
    → opened_by (view_after before after view) space
    ≡ (opened_by view space + opened_in after space) - opened_in before space
opened_after NonClass before after view = refl
opened_after Class before after view = refl

-- A tally that is the sum of the seats' stays so where both are raised or neither.
sum_raised : (same : Bool) (total' total tally old new : ℕ) → total' + tally ≡ total + cond same tally (one_more tally)
    → old ≡ total % 2 ^ 64
    → (same ≡ true → new ≡ old) → (same ≡ false → new ≡ one_more old) → new ≡ total' % 2 ^ 64
sum_raised true total' total tally old new sum is kept more = let equal : total' ≡ total = omega arith in
    kept refl ∙ is ∙ ap (λ n. n % 2 ^ 64) (sym equal)
sum_raised false total' total tally old new sum is kept more =
    more refl ∙ ap (λ n. (n + 1) % 2 ^ 64) is ∙ mod_in total 1 (2 ^ 64)
    ∙ sym (mod_shift total' total tally 1 (2 ^ 64) sum)

pub nobody_has : (views : List LockView) (seat : ℕ) (view : LockView) (taken : Ledger) → sum_by has_pool views ≡ 0
    → get_elem? views seat ≡ some view
    → view.taken ≡ Some taken → ⊥
nobody_has views seat view taken zero_all at has =
    let own = total_at has_pool views seat view at in let one : has_pool view ≡ 1 = ap count_some has in
    absurd (omega arith)

abbrev has_one : Ledger → List (ℕ × Option Ledger)
has_one pool = (0, Some pool) ∷ []

abbrev with_none : LockView → Sat
with_none view = (view, [])

module _ (made : ℕ) (first : Ledger) (id : ℕ) (view : LockView) (live : 0 < view.parts)
    (numbered : 0 < length view.strands) (old new : Ledger) (has : view.taken ≡ Some old) (moves : Moves view.knows old new) where
  once_after : (owner : ℕ) (state : State (Option Ledger) LockView) (rule : IsLocked made first state)
      → get_elem? state.views id ≡ some view → old ≡ rule.pool
      → sum_by (λ (v : LockView). times owner v.knows.served) (set state.views id (after view old new))
      ≡ once_given owner new.given
  once_after owner state rule at is =
      let total =
      total-set (λ (v : LockView). times owner v.knows.served) state.views id view (after view old new) at in
      let joined = times-append owner (refreshed new view.knows.served) (fresh new old.given (new.given - old.given)) in
      let own = times-refreshed new owner view.knows.served in
      let added = times_fresh new owner old.given (new.given - old.given) in
      let more = moves.given in let sum : old.given + (new.given - old.given) ≡ new.given = omega arith in
      let given : once_given owner (old.given + (new.given - old.given)) ≡ once_given owner new.given =
      ap (once_given owner) sum in
      let was : once_given owner old.given ≡ once_given owner rule.pool.given =
      ap (λ (pool : Ledger). once_given owner pool.given) is in
      let all = rule.once owner in omega arith

  opened_then : (space : Space) (state : State (Option Ledger) LockView) (rule : IsLocked made first state)
      → get_elem? state.views id ≡ some view → old ≡ rule.pool
      → sum_by (λ (v : LockView). opened_by v.knows space) (set state.views id (after view old new))
      ≡ opened_in new space
  opened_then space state rule at is =
      let total = total-set (λ (v : LockView). opened_by v.knows space) state.views id view (after view old new) at in
      let own = opened_after space old new view.knows in let enough = moves.counted space in
      let was : opened_in old space ≡ opened_in rule.pool space = ap (λ (pool : Ledger). opened_in pool space) is in
      let all = rule.opened space in omega arith

  tallies_then : (kind : TallyKind) (state : State (Option Ledger) LockView) (rule : IsLocked made first state)
      → get_elem? state.views id ≡ some view → old ≡ rule.pool
      → tally_of kind new.tallies
      ≡ sum_by (λ (v : LockView). tally_of kind v.knows.tallies) (set state.views id (after view old new)) % 2 ^ 64
  tallies_then kind state rule at is =
      let total =
      total-set (λ (v : LockView). tally_of kind v.knows.tallies) state.views id view (after view old new) at in
      let own = tally_after kind old.tallies new.tallies view.knows.tallies in
      sum_raised (tally_of kind new.tallies == tally_of kind old.tallies) _
      (sum_by (λ (v : LockView). tally_of kind v.knows.tallies) state.views)
      (tally_of kind view.knows.tallies) (tally_of kind old.tallies) (tally_of kind new.tallies) (omega arith)
      (ap (λ (pool : Ledger). tally_of kind pool.tallies) is ∙ rule.tallies kind)
      (λ e. eqb-true (tally_of kind new.tallies) (tally_of kind old.tallies) e)
      (λ e. ⊎_elim (λ q. absurd (eqb-false (tally_of kind new.tallies) (tally_of kind old.tallies) e q)) (λ q. q)
      (moves.tallies kind))

  -- The seat puts the pool back.
  pub put_back_now : (state : State (Option Ledger) LockView) (rule : IsLocked made first state)
      → get_elem? state.views id ≡ some view
      → IsLocked made first
      (record {
        words = set state.words 0 0;
        homes = set state.homes 0 (some (Some new));
        views = set state.views id (after view old new);
      })
  put_back_now state rule at =
      let next = after view old new in let is : old ≡ rule.pool = rule.out id view old at has in
      let long = rule.word in let zero_now = get_or-set_same state.words 0 0 0 (omega arith) in
      let locks = rule.lock in let bit_is = rule.bit in let home_is = rule.home in
      let total = total-set has_pool state.views id view next at in let own =
      total_at has_pool state.views id view at in
      let some_before : has_pool view ≡ 1 = ap count_some has in let none_now : has_pool next ≡ 0 = refl in
      let nobody : sum_by has_pool (set state.views id next) ≡ 0 = omega arith in
      let old_fits : (seat : ℕ) (w : LockView) → get_elem? state.views seat ≡ some w → Fits old w =
      λ seat w t. subst (λ (pool : Ledger). Fits pool w) (sym is) (rule.fits seat w t) in
      record {
        pool = new;
        history = logged_more made first old new state.views id view numbered at
            (subst (λ (pool : Ledger). IsLogged made first pool state.views) (sym is) rule.history);
        word = length-set state.words 0 0 ∙ rule.word;
        bit = omega arith;
        home = length-set state.homes 0 (some (Some new)) ∙ rule.home;
        lock = nobody ∙ sym zero_now;
        free = λ zero_then. set_here state.homes 0 (some (Some new)) (omega arith);
        out = λ seat w taken t q. absurd (nobody_has (set state.views id next) seat w taken nobody t q);
        fits = each_set (Fits new) state.views id next (own_fits old new view moves live (old_fits id view at))
            (λ seat w t differs. others_fit old new view w moves
            (apart_from made first state rule id seat view w differs at t) (old_fits seat w t));
        once = λ owner. once_after owner state rule at is;
        opened = λ space. opened_then space state rule at is;
        tallies = λ kind. tallies_then kind state rule at is;
        limits_are = moves.limits ∙ ap (λ (pool : Ledger). pool.limits) is ∙ rule.limits_are;
        parts = total_kept (λ (v : LockView). v.parts) state.views id view next refl at ∙ rule.parts;
      }

  pub put_back_pool : (state : State (Option Ledger) LockView) (rule : IsLocked made first state)
      (at : get_elem? state.views id ≡ some view) → (put_back_now state rule at).pool ≡ new
  unfolding put_back_now
  put_back_pool state rule at = refl

  lets_go : (slots : ℕ) → Allows (IsLocked made first) slots id (view, has_one new) 0 (λ _. 0)
      (λ _ n. (next : Ledger) → has_one new ≡ has_one next → n ≡ with_none (after view old next))
  lets_go slots state rule wide at fits = (
    after view old new,
    gives,
    tt,
    put_back_now state rule at,
    λ next same. ap (λ (taken : List (ℕ × Option Ledger)). with_none (after view old (some_pool (first_of taken))))
        same,
  )
    where
      first_of : List (ℕ × Option Ledger) → Option Ledger
      first_of [] = None
      first_of (x ∷ xs) = x.1

pub lets_go_at : (made : ℕ) (first : Ledger) (slots id : ℕ) (me : Sat) (new : Ledger) → 0 < me.0.parts
    → 0 < length me.0.strands → me.0.taken ≡ Some (taken_of me.0)
    → Moves me.0.knows (taken_of me.0) new → me.1 ≡ has_one new
    → Allows (IsLocked made first) slots id me 0 (λ _. 0)
    (λ _ n. (next : Ledger) → me.1 ≡ has_one next → n ≡ with_none (after me.0 (taken_of me.0) next))
lets_go_at made first slots id me new live numbered has moves one_taken =
    subst (λ (taken : List (ℕ × Option Ledger)). Allows (IsLocked made first) slots id (me.0, taken) 0 (λ _. 0)
    (λ _ n. (next : Ledger) → taken ≡ has_one next → n ≡ with_none (after me.0 (taken_of me.0) next)))
    (sym one_taken) (lets_go made first id me.0 live numbered (taken_of me.0) new has moves slots)

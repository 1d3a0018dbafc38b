-- Taking the pool and putting it back keep the rule of the lock. For `seize` and `let_go`.
use Rattle.std.proofs.Common.{◌≡◌, ◌≢◌, ℕ, ◌%◌, ◌^◌, ◌<◌, ◌==◌, List, []}
use Rattle.std.proofs.Common.{set, slice_index, sym, refl, ap, ◌∙◌, subst, arith, Option, Some, None}
use Rattle.std.proofs.Common.{length-set, get_or-set_same, eq-eqb, ne_eqb}
use mathlib.Core.Logic.{dite}
use mathlib.Core.Option.{some, none}
use native.Mathlib.Decide.{ℕ_discrete}
use lib.ListN.{get_elem?}
use prog.Atomic.{either}
use Rattle.atomic_table.specs.Table.{State, keeps, takes, Allows}
use Rattle.atomic_table.proofs.Lists.{set_again}
use Rattle.ms_pool.specs.Ledger.{Ledger}
use Rattle.ms_shared.specs.declared.lock_rule.LockView.{LockView}
use Rattle.ms_shared.specs.Entries.{times}
use Rattle.ms_shared.specs.SeatView.{tally_of, opened_by, IsKnown}
use Rattle.ms_shared.proofs.LoggedLemmas.{each_set, logged_kept}
use Rattle.ms_shared.specs.LockRule.{IsLocked, Fits, Sat, has_pool, count_some, with_pool, Seizes}
use Rattle.ms_shared.specs.LockRule.{some_pool}
use Rattle.ms_shared.proofs.TotalLemmas.{total-set, total_at, total_kept}

pub some_apart : (pool : Ledger) → None ≡ Some pool → ⊥
some_apart pool is = let one : ◌≡◌ {A = ℕ} 0 1 = ap count_some is in absurd (omega arith)

-- A view's pool is the one that there is.
abbrev pub HasOnly : Ledger → LockView → Type 0
HasOnly pool view = (taken : Ledger) → view.taken ≡ Some taken → taken ≡ pool

module _ (made : ℕ) (first : Ledger) where
  known_in : (state : State (Option Ledger) LockView) (rule : IsLocked made first state) (id : ℕ) (view : LockView)
      → 0 < view.parts
      → get_elem? state.views id ≡ some view → IsKnown rule.pool view.knows
  known_in state rule id view live at =
      let fits = rule.fits id view at in record {
        served = fits.served;
        limits = sym (fits.limits live);
        opened = λ space. let own = total_at (λ (v : LockView). opened_by v.knows space) state.views id view at in
            let all = rule.opened space in omega arith;
      }

  module _ (id : ℕ) (view : LockView) (live : 0 < view.parts) (idle : view.taken ≡ None) where
    -- The lock is free, and the seat takes the pool.
    pub taken_now : (state : State (Option Ledger) LockView) (rule : IsLocked made first state)
        → get_elem? state.views id ≡ some view
        → slice_index state.words 0 ≡ 0
        → IsLocked made first
        (record {
          words = set state.words 0 1;
          homes = set state.homes 0 none;
          views = set state.views id (with_pool view rule.pool);
        })
    taken_now state rule at free =
        let new = with_pool view rule.pool in let fits = rule.fits id view at in let long = rule.word in
        let one = get_or-set_same state.words 0 1 0 (omega arith) in let locks = rule.lock in
        let total = total-set has_pool state.views id view new at in
        let none_before : has_pool view ≡ 0 = ap count_some idle in let some_now : has_pool new ≡ 1 = refl in record {
          pool = rule.pool;
          history = logged_kept made first rule.pool state.views id view new refl at rule.history;
          word = length-set state.words 0 1 ∙ rule.word;
          bit = omega arith;
          home = length-set state.homes 0 none ∙ rule.home;
          lock = omega arith;
          free = λ zero_now. absurd (omega arith);
          out = λ seat w taken at' has. each_set (HasOnly rule.pool) state.views id new (λ t r. sym (ap some_pool r))
              (λ other x t differs y r. rule.out other x y t r) seat w at' taken has;
          fits = each_set (Fits rule.pool) state.views id new
              (record { served = fits.served; limits = fits.limits; idle = λ none'. absurd (omega arith) })
              (λ other x t differs. rule.fits other x t);
          once = λ owner. total_kept (λ (v : LockView). times owner v.knows.served) state.views id view new
              refl at ∙ rule.once owner;
          opened = λ space. total_kept (λ (v : LockView). opened_by v.knows space) state.views id view new
              refl at ∙ rule.opened space;
          tallies =
              λ kind. rule.tallies kind
              ∙ ap (λ n. n % 2 ^ 64)
              (sym (total_kept (λ (v : LockView). tally_of kind v.knows.tallies) state.views id view new refl at));
          limits_are = rule.limits_are;
          parts = total_kept (λ (v : LockView). v.parts) state.views id view new refl at ∙ rule.parts;
        }

    -- The lock isn't free, and nothing changes.
    same_now : (state : State (Option Ledger) LockView) → IsLocked made first state
        → get_elem? state.views id ≡ some view
        → IsLocked made first
        (record {
          words = set state.words 0 (slice_index state.words 0);
          homes = state.homes;
          views = set state.views id view;
        })
    same_now state rule at =
        let long = rule.word in let one = get_or-set_same state.words 0 (slice_index state.words 0) 0 (omega arith) in
        let locks = rule.lock in let bit_is = rule.bit in
        subst (λ (views : List LockView). IsLocked made first
        (record { words = set state.words 0 (slice_index state.words 0); homes = state.homes; views = views }))
        (sym (set_again state.views id view at)) (record {
          pool = rule.pool;
          history = rule.history;
          word = length-set state.words 0 _ ∙ rule.word;
          bit = omega arith;
          home = rule.home;
          lock = locks ∙ sym one;
          free = λ zero_now. rule.free (sym one ∙ zero_now);
          out = rule.out;
          fits = rule.fits;
          once = rule.once;
          opened = rule.opened;
          tallies = rule.tallies;
          limits_are = rule.limits_are;
          parts = rule.parts;
        })

    hits : (n : ℕ) → n ≡ 0 → 1 ≡ either (n == 0) 1 n
    hits n is = rw (eq-eqb n 0 is) refl

    misses : (n : ℕ) → n ≢ 0 → n ≡ either (n == 0) 1 n
    misses n differs = rw (ne_eqb n 0 differs) refl

    tries_here : (slots : ℕ) → Allows (IsLocked made first) slots id (view, []) 0 (λ n. either (n == 0) 1 n)
        (λ found new. (found ≡ 0 → Seizes (view, []) new) × (found ≢ 0 → new ≡ (view, [])))
    tries_here slots state rule wide at fits =
        dite (ℕ_discrete (slice_index state.words 0) 0)
        (λ free. (
          with_pool view rule.pool,
          takes 0 (Some rule.pool),
          rule.free free,
          subst (λ n. IsLocked made first
              (record {
                words = set state.words 0 n;
                homes = set state.homes 0 none;
                views = set state.views id (with_pool view rule.pool);
              }))
              (hits (slice_index state.words 0) free) (taken_now state rule at free),
          ((λ zero_now. (rule.pool, refl, known_in state rule id view live at)), (λ differs. absurd (differs free))),
        ))
        (λ held. (
          view,
          keeps,
          tt,
          subst (λ n. IsLocked made first
              (record { words = set state.words 0 n; homes = state.homes; views = set state.views id view }))
              (misses (slice_index state.words 0) held) (same_now state rule at),
          ((λ zero_now. absurd (held zero_now)), (λ differs. refl)),
        ))

-- The same for a seat's whole state.
pub tries_at : (made : ℕ) (first : Ledger) (slots id : ℕ) (me : Sat) → 0 < me.0.parts → me.0.taken ≡ None → me.1 ≡ []
    → Allows (IsLocked made first) slots id me 0 (λ n. either (n == 0) 1 n)
    (λ found new. (found ≡ 0 → Seizes me new) × (found ≢ 0 → new ≡ me))
tries_at made first slots id me live idle none_taken =
    subst (λ (taken : List (ℕ × Option Ledger)). Allows (IsLocked made first) slots id (me.0, taken) 0
    (λ n. either (n == 0) 1 n)
    (λ found new. (found ≡ 0 → Seizes (me.0, taken) new) × (found ≢ 0 → new ≡ (me.0, taken))))
    (sym none_taken) (tries_here made first id me.0 live idle slots)

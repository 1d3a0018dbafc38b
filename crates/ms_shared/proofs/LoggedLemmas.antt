-- The one history as the views of all seats change: one is replaced by one with the same strands,
-- cut, joined with another, or puts the pool back. For the rule of the lock.
use Rattle.std.proofs.Common.{◌≡◌, ◌≢◌, ℕ, ◌<◌, List, [], ◌∷◌, ◌++◌, length, set, refl, sym, ap, ◌∙◌, subst}
use Rattle.std.proofs.Common.{⊎_elim, arith}
use mathlib.Core.Option.{some, some-ne-none}
use lib.ListN.{get_elem?}
use Rattle.atomic_table.proofs.Lists.{at_set, at_snoc, set_else}
use Rattle.ms_pool.specs.Ledger.{Ledger}
use Rattle.ms_shared.specs.declared.lock_rule.LockView.{LockView}
use Rattle.ms_shared.specs.History.{Logged, AreStrands, strands_with}
use Rattle.ms_shared.specs.LockRule.{IsLogged, after, first_view}
use Rattle.ms_shared.proofs.TotalLemmas.{total_at, total_two, total_kept, total_cut, total_joined}
use Rattle.ms_shared.proofs.StrandLemmas.{with_event, chain_more, below_more, strands_kept, strands_extended, own_number}
use Rattle.ms_shared.proofs.StrandLemmas.{number_below, own_strands, with_extended, with_append, strands_append}
use Rattle.ms_shared.proofs.StrandLemmas.{strands_front, strands_back, no_events_once, no_events_are}

-- What holds of each view, where one is replaced or one comes.
pub each_set : (P : LockView → Type 0) (views : List LockView) (seat : ℕ) (view : LockView) → P view
    → ((other : ℕ) (w : LockView) → get_elem? views other ≡ some w → other ≢ seat → P w)
    → (other : ℕ) (w : LockView) → get_elem? (set views seat view) other ≡ some w → P w
each_set P views seat view here others other w at =
    ⊎_elim (λ t. subst P t.1 here) (λ t. others other w t.1 t.0) (at_set views seat other view w at)

pub each_snoc : (P : LockView → Type 0) (views : List LockView) (view : LockView) → P view
    → ((other : ℕ) (w : LockView) → get_elem? views other ≡ some w → P w)
    → (other : ℕ) (w : LockView) → get_elem? (views ++ view ∷ []) other ≡ some w → P w
each_snoc P views view here others other w at =
    ⊎_elim (λ t. others other w t) (λ t. subst P t here) (at_snoc views view w other at)

abbrev FitsLog : ℕ → List Logged → LockView → Type 0
FitsLog made log view = AreStrands made log view.strands

abbrev count_of : ℕ → LockView → ℕ
count_of n view = strands_with n view.strands

module _ (made : ℕ) (first : Ledger) where
  pub logged_kept : (pool : Ledger) (views : List LockView) (id : ℕ) (view new : LockView) → new.strands ≡ view.strands
      → get_elem? views id ≡ some view → IsLogged made first pool views → IsLogged made first pool (set views id new)
  logged_kept pool views id view new same at history = record {
    log = history.log;
    chain = history.chain;
    numbered = history.numbered;
    own = each_set (FitsLog made history.log) views id new
        (subst (AreStrands made history.log) (sym same) (history.own id view at))
        (λ other w t differs. history.own other w t);
    once = λ n less. total_kept (count_of n) views id view new (ap (strands_with n) (sym same)) at ∙ history.once n less;
  }

  pub logged_cut : (pool : Ledger) (views : List LockView) (id : ℕ) (view left right : LockView)
      → left.strands ++ right.strands ≡ view.strands → get_elem? views id ≡ some view
      → IsLogged made first pool views → IsLogged made first pool (set views id left ++ right ∷ [])
  logged_cut pool views id view left right is at history =
      let all = subst (AreStrands made history.log) (sym is) (history.own id view at) in record {
        log = history.log;
        chain = history.chain;
        numbered = history.numbered;
        own = each_snoc (FitsLog made history.log) (set views id left) right
            (strands_back made history.log left.strands right.strands all)
            (each_set (FitsLog made history.log) views id left
            (strands_front made history.log left.strands right.strands all)
            (λ other w t differs. history.own other w t));
        once = λ n less. total_cut (count_of n) views id view left right
            (sym (with_append n left.strands right.strands) ∙ ap (strands_with n) is) at ∙ history.once n less;
      }

  pub logged_joined : (pool : Ledger) (views : List LockView) (id other : ℕ) (view w new spent : LockView)
      → new.strands ≡ view.strands ++ w.strands → spent.strands ≡ [] → get_elem? views id ≡ some view → other ≢ id
      → get_elem? (set views id new) other ≡ some w
      → IsLogged made first pool views → IsLogged made first pool (set (set views id new) other spent)
  logged_joined pool views id other view w new spent is none at apart at' history =
      let both = strands_append made history.log view.strands w.strands (history.own id view at)
      (history.own other w (sym (set_else views id other new apart) ∙ at')) in record {
        log = history.log;
        chain = history.chain;
        numbered = history.numbered;
        own = each_set (FitsLog made history.log) (set views id new) other spent
            (subst (AreStrands made history.log) (sym none) tt)
            (λ index z r differs. each_set (FitsLog made history.log) views id new
            (subst (AreStrands made history.log) (sym is) both)
            (λ index' z' r' differs'. history.own index' z' r') index z r);
        once = λ n less. total_joined (count_of n) views id other view w new spent
            (let sum : strands_with n new.strands ≡ strands_with n (view.strands ++ w.strands) = ap (strands_with n) is in
            let parts = with_append n view.strands w.strands in
            let zero_rest : strands_with n spent.strands ≡ 0 = ap (strands_with n) none in omega arith) at at'
            ∙ history.once n less;
      }

  -- The seat puts the pool back, and its event is the last of the history.
  pub logged_more : (old new : Ledger) (views : List LockView) (id : ℕ) (view : LockView) → 0 < length view.strands
      → get_elem? views id ≡ some view
      → IsLogged made first old views → IsLogged made first new (set views id (after view old new))
  logged_more old new views id view live at history =
      let n = own_number view.strands in let log = with_event history.log n (old, new) in
      let next = after view old new in let fits = history.own id view at in
      let below = number_below made history.log view.strands live fits in
      let here = total_at (count_of n) views id view at in let all = history.once n below in
      let own = own_strands view.strands live in record {
        log = log;
        chain = chain_more history.log n first old new history.chain;
        numbered = below_more made history.log n (old, new) below history.numbered;
        own = each_set (FitsLog made log) views id next
            (strands_extended made history.log (old, new) view.strands (omega arith) fits)
            (λ seat w t differs.
            let two = total_two (count_of n) views seat id w view differs t at in
            strands_kept made history.log n (old, new) w.strands (omega arith) (history.own seat w t));
        once = λ k less. total_kept (count_of k) views id view next (sym (with_extended k (old, new) view.strands)) at
            ∙ history.once k less;
      }

not_there : (seat : ℕ) (view : LockView) → get_elem? {A = LockView} [] seat ≡ some view → ⊥
not_there seat view at = some-ne-none view (sym at)

pub logged_first : (made : ℕ) (pool : Ledger) → IsLogged made pool pool (first_view made pool ∷ [])
logged_first made pool = record {
  log = [];
  chain = refl;
  numbered = tt;
  own = each_snoc (FitsLog made []) [] (first_view made pool) (no_events_are made 0 made (omega arith))
      (λ other w t. absurd (not_there other w t));
  once = λ n less. (let one = no_events_once n 0 made (omega arith) (omega arith) in omega arith);
}

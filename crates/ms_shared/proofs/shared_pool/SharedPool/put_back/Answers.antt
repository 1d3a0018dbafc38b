use Rattle.std.proofs.Common.{rules, ◌≡◌, ℕ, ◌<◌, ◌∷◌, List, [], Option, Some, None, sym, ap, ◌∙◌, subst}
use Rattle.atomic_table.specs.Table.{rest}
use Rattle.ms_pool.specs.Ledger.{Ledger}
use Rattle.ms_shared.specs.SeatView.{LockState}
use Rattle.ms_shared.specs.LockRule.{Sat, without_pool}
use Rattle.ms_shared.proofs.HoldLemmas.{puts_back_at}
use Rattle.ms_shared.proofs.shared_pool.SharedPool.put_back.Goals as goal

put : (old new : Sat) (pool : Ledger) → old.1 ≡ (0, None) ∷ [] → new ≡ (old.0, (0, Some pool) ∷ rest old.1)
    → ◌≡◌ {A = Sat} new (old.0, (0, Some pool) ∷ [])
put old new pool taken is = is ∙ ap (λ (l : List (ℕ × Option Ledger)). (old.0, (0, Some pool) ∷ rest l)) taken

pub store-requires : goal.store-requires
store-requires c =
    let e = c.exchange.ensures in let me = sym (put _ _ _ c.requires.slots e.3) in (
      e.0 ∙ c.requires.own ∙ ap (λ (l : LockState). l.id) (sym c.self.view_is),
      search rules,
      puts_back_at _ _ _ _ _ c.args.pool (subst (λ (m : Sat). 0 < m.0.parts) me c.requires.live)
          (subst (λ (m : Sat). m.0.taken ≡ Some c.args.pool) me c.requires.has)
          (ap (λ (m : Sat). m.1) (sym me)),
    )

pub returns-clause-seat : goal.returns-clause-seat
returns-clause-seat c =
    let e = c.exchange.ensures in let me = put _ _ _ c.requires.slots e.3 in
    c.store.ensures.2 ∙ ap (λ (m : Sat). (without_pool m.0, [])) me

use Rattle.std.proofs.Common.{rules, ◌≡◌, ℕ, ◌<◌, ◌∷◌, List, length, [], Option, Some, None, sym, ap, ◌∙◌, subst}
use Rattle.atomic_table.specs.Table.{rest}
use Rattle.ms_pool.specs.Ledger.{Ledger}
use Rattle.ms_shared.specs.SeatView.{LockState}
use Rattle.ms_shared.specs.LockRule.{Sat, Moves, taken_of, after}
use Rattle.ms_shared.proofs.LetGoLemmas.{lets_go_at}
use Rattle.ms_shared.proofs.shared_pool.SharedPool.let_go.Goals as goal

put : (old new : Sat) (pool : Ledger) → old.1 ≡ (0, None) ∷ [] → new ≡ (old.0, (0, Some pool) ∷ rest old.1)
    → ◌≡◌ {A = Sat} new (old.0, (0, Some pool) ∷ [])
put old new pool taken is = is ∙ ap (λ (l : List (ℕ × Option Ledger)). (old.0, (0, Some pool) ∷ rest l)) taken

pub store-requires : goal.store-requires
store-requires c =
    let e = c.exchange.ensures in let me = sym (put _ _ _ c.requires.slots e.3) in (
      e.0 ∙ c.requires.own ∙ ap (λ (l : LockState). l.id) (sym c.self.view_is),
      search rules,
      lets_go_at _ _ _ _ _ c.args.pool (subst (λ (m : Sat). 0 < m.0.parts) me c.requires.live)
          (subst (λ (m : Sat). 0 < length m.0.strands) me c.requires.numbered)
          (subst (λ (m : Sat). m.0.taken ≡ Some (taken_of m.0)) me c.requires.has)
          (subst (λ (m : Sat). Moves m.0.knows (taken_of m.0) c.args.pool) me c.requires.moves)
          (ap (λ (m : Sat). m.1) (sym me)),
    )

pub returns-clause-seat : goal.returns-clause-seat
returns-clause-seat c =
    let e = c.exchange.ensures in let me = put _ _ _ c.requires.slots e.3 in
    c.store.ensures.2 c.args.pool (ap (λ (m : Sat). m.1) me)
    ∙ ap (λ (m : Sat). (after m.0 (taken_of m.0) c.args.pool, [])) me

use Rattle.std.proofs.Common.{rules, ℕ, ◌∷◌, List, Option, Some, sym, ap, ◌∙◌}
use Rattle.atomic_table.specs.Table.{rest}
use Rattle.ms_pool.specs.Ledger.{Ledger}
use Rattle.ms_shared.specs.SeatView.{LockState}
use Rattle.ms_shared.specs.LockRule.{Sat}
use Rattle.ms_shared.proofs.LockLemmas.{tries_at}
use Rattle.ms_shared.proofs.shared_pool.SharedPool.try_seize.Goals as goal

pub compare_exchange-requires : goal.compare_exchange-requires
compare_exchange-requires c =
    (search rules, search rules, tries_at _ _ _ _ _ c.requires.live c.requires.free c.requires.slots)

pub exchange-requires : goal.exchange-requires
exchange-requires c =
    let took = c.compare_exchange.ensures.2.0 c.if-compare_exchange-eq0.true in let taken =
    ap (λ (m : Sat). m.1) took.1 ∙ ap (λ (l : List (ℕ × Option Ledger)). (0, Some took.0) ∷ l) c.requires.slots in (
      c.compare_exchange.ensures.0 ∙ c.requires.own ∙ ap (λ (l : LockState). l.id) (sym c.self.view_is),
      (Some took.0, taken ∙ ap (λ (l : List (ℕ × Option Ledger)). (0, Some took.0) ∷ rest l) (sym taken)),
    )

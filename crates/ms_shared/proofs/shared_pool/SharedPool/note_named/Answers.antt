use Rattle.std.proofs.Common.{rules, sym, ap, ◌∙◌}
use Rattle.ms_shared.specs.SeatView.{LockState}
use Rattle.ms_shared.proofs.HoldLemmas.{notes_at}
use Rattle.ms_shared.proofs.shared_pool.SharedPool.note_named.Goals as goal

pub load-requires : goal.load-requires
load-requires g c = (
  c.requires.own ∙ ap (λ (l : LockState). l.id) (sym c.self.view_is),
  search rules,
  notes_at _ _ _ _ _ _ c.requires.live c.requires.numbered c.requires.has c.requires.moves,
)

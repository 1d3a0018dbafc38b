use Rattle.std.proofs.Common.{sym, subst}
use Rattle.ms_shared.specs.SeatView.{IsKnown}
use Rattle.ms_shared.specs.LockRule.{Sat}
use Rattle.ms_shared.proofs.HoldLemmas.{known_after}
use Rattle.ms_shared.proofs.shared_pool.SharedPool.note.Goals as goal

pub returns-clause-known : goal.returns-clause-known
returns-clause-known c = λ known.
    subst (λ (m : Sat). IsKnown c.args.pool.now m.0.knows) (sym c.note_named.ensures.seat)
    (known_after _ _ _ c.requires.moves known)

use Rattle.std.proofs.Common.{sym, subst}
use Rattle.ms_shared.specs.SeatView.{HeldState}
use Rattle.ms_member.specs.Member.{ServesIt}
use Rattle.ms_member.proofs.ServedLemmas.{serves_purged}
use Rattle.ms_member.proofs.member.loading.purge_over.Goals as goal

-- what was served is served still
pub returns-clause-serves : goal.returns-clause-serves
returns-clause-serves c = λ loader its.
    subst (λ (held : HeldState). ServesIt held.seat.knows loader) (sym c.pause.ensures)
    (serves_purged c.resume-pool.result.seat.knows c.purge-gone.new.self.seat.knows c.purge-gone.ensures.served
    c.purge-gone.ensures.counted loader
    (subst (λ (held : HeldState). ServesIt held.seat.knows loader) (sym c.resume-pool.ensures) its))

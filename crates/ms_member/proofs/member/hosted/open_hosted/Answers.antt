use Rattle.std.proofs.Common.{sym, subst}
use Rattle.ms_pool.specs.Account.{AccountState}
use Rattle.ms_shared.specs.SeatView.{HeldState}
use Rattle.ms_member.specs.declared.member.hosted.Hosted.{Hosted}
use Rattle.ms_member.specs.Arenas.{ServesArenas}
use Rattle.ms_member.specs.Hosted.{shown, new_hosted}
use Rattle.ms_member.proofs.ArenasLemmas.{serves_opened}
use Rattle.ms_member.proofs.member.hosted.open_hosted.Goals as goal

-- the seat serves the new arenas
pub returns-in-Ok-clause-serves : goal.returns-in-Ok-clause-serves
returns-in-Ok-clause-serves c =
    let now = c.open_both.new.self in let opened = c.in-Ok.ensures in
    let accounts : AccountState × AccountState = (c.in-Ok.account, c.in-Ok.class_account) in
    subst (λ (hosted : Hosted). ServesArenas c.pause.result.seat.knows (shown hosted)) (sym c.hosted_over.ensures)
    (subst (λ (held : HeldState). ServesArenas held.seat.knows (shown (new_hosted c.args.is_bare accounts c.args.kind)))
    (sym c.pause.ensures)
    (serves_opened c.args.is_bare c.args.kind c.resume-pool.result.seat now.seat accounts opened.opened.0
    opened.served.served opened.served.class_served opened.served.space opened.served.class_space opened.counted))

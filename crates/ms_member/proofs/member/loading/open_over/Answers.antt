use Rattle.std.proofs.Common.{sym, subst}
use Rattle.ms_loader.specs.Loader.{LoaderView, new_loader}
use Rattle.ms_shared.specs.SeatView.{HeldState}
use Rattle.ms_member.specs.Member.{ServesLoader}
use Rattle.ms_member.proofs.ServedLemmas.{serves_new}
use Rattle.ms_member.proofs.member.loading.open_over.Goals as goal

-- the seat serves the new loader
pub returns-in-Ok-clause-serves : goal.returns-in-Ok-clause-serves
returns-in-Ok-clause-serves c =
    let now = c.open_both.new.self in let opened = c.in-Ok.ensures in
    subst (λ (loader : LoaderView). ServesLoader c.pause.result.seat.knows loader) (sym c.new.ensures.made)
    (subst (λ (held : HeldState). ServesLoader held.seat.knows
    (new_loader c.in-Ok.account c.in-Ok.class_account c.args.kind)) (sym c.pause.ensures)
    (serves_new c.args.kind c.resume-pool.result.seat now.seat (c.in-Ok.account, c.in-Ok.class_account) opened.opened.0
    opened.served.served opened.served.class_served opened.counted))

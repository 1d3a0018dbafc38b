use Rattle.std.proofs.Common.{sym, subst}
use Rattle.ms_loaders.proofs.steps.ServedLemmas.{block_keeps}
use Rattle.ms_shared.specs.SeatView.{HeldState}
use Rattle.ms_shared.specs.LockCalls.{TookHeld, GrewHeld}
use Rattle.ms_member.specs.Member.{ServesLoader}
use Rattle.ms_member.proofs.ServedLemmas.{serves_after}
use Rattle.ms_member.proofs.member.loading.ask_pool.Goals as goal

-- the seat serves the loader still
pub returns-clause-serves : goal.returns-clause-serves
returns-clause-serves c =
    let pool = c.resume-pool.result in let now = c.allocate-answer.new.source in let made = c.allocate-answer.ensures in
    let loader = c.args.loader.now in let is = c.allocate-answer.new.self in
    subst (λ (held : HeldState). ServesLoader held.seat.knows is) (sym c.pause.ensures)
    (serves_after c.args.space pool.seat.knows now.seat.knows loader is
    (subst (λ (held : HeldState). ServesLoader held.seat.knows loader) (sym c.resume-pool.ensures) c.requires.serves)
    (block_keeps GrewHeld TookHeld _ c.args.space loader is c.args.block c.args.words pool now c.allocate-answer.result
    made.allocates) made.served made.rest.others made.rest.counted)

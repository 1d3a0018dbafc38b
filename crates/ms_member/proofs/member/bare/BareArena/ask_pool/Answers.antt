use Rattle.std.proofs.Common.{[], sym, subst, ap, ◌∙◌}
use Rattle.ms_arena.specs.Raw.{with_live, live_then}
use Rattle.ms_shared.specs.SeatView.{HeldState}
use Rattle.ms_member.specs.Bare.{AsksBare, bare_of}
use Rattle.ms_member.proofs.BareLemmas.{gains_asked, stays_bare}
use Rattle.ms_member.proofs.ServedLemmas.{arena_id}
use Rattle.ms_member.proofs.member.bare.BareArena.ask_pool.Goals as goal

-- the seat is of its lock still
pub returns-clause-own : goal.returns-clause-own
returns-clause-own c =
    let made = c.alloc-answer in
    ap (λ (held : HeldState). held.seat.id) c.pause.ensures
    ∙ arena_id _ (with_live c.self.inside.raw []) c.args.words c.resume-pool.result made.result
    (with_live made.new.self (live_then [] made.result)) made.new.source (made.ensures.allocates [])
    ∙ ap (λ (held : HeldState). held.seat.id) c.resume-pool.ensures

-- what the raw arena answered
pub returns-clause-asks : goal.returns-clause-asks
returns-clause-asks c =
    let made = c.alloc-answer in let old = bare_of c.self.inside.raw in let new = bare_of made.new.self in
    rw (← c.self.view_is)
    (subst (λ (after : HeldState). AsksBare c.args.words c.args.held old made.result new after) (sym c.pause.ensures)
    (subst (λ (before : HeldState). AsksBare c.args.words before old made.result new made.new.source)
    c.resume-pool.ensures (record {
      allocates = made.ensures.allocates;
      gains = gains_asked c.self.inside.raw made.new.self made.result made.ensures.gains;
    })))

pub returns-clause-unchanged : goal.returns-clause-unchanged
returns-clause-unchanged c =
    let made = c.alloc-answer in
    rw (← c.self.view_is) (stays_bare c.self.inside.raw made.new.self made.result made.ensures.unchanged)

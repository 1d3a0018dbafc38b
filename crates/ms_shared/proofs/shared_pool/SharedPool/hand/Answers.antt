use Rattle.std.proofs.Common.{◌≡◌, ap}
use Rattle.ms_shared.specs.SeatView.{SeatState, without_account, with_account, seat_of}
use Rattle.ms_shared.proofs.HandLemmas.{from_is, to_is, hands_on}
use Rattle.ms_shared.proofs.shared_pool.SharedPool.hand.Goals as goal

pub returns : goal.returns
returns c =
    let owner = c.args.account.now.owner in let space = c.args.account.now.space in let from = c.args.from.now in
    let to = c.args.to.now in
    let from_now : seat_of c.pass.new.from.table_id c.pass.new.from.me.0
    ≡ record from { knows = without_account owner space from.knows } =
    rw (← c.from.view_is)
    (from_is _ _ _ c.from.inside.seat.me.0 c.to.inside.seat.me.0 owner space c.pass.ensures.from_own
    c.pass.ensures.from) in
    let to_now : seat_of c.pass.new.to.table_id c.pass.new.to.me.0
    ≡ record to { knows = with_account owner space from.knows to.knows } =
    rw (← c.from.view_is)
    (rw (← c.to.view_is)
    (to_is _ _ _ c.from.inside.seat.me.0 c.to.inside.seat.me.0 owner space c.pass.ensures.to_own c.pass.ensures.to))
    in
    record {
      from = from_now;
      to = to_now;
      handed = hands_on _ _ _ _ _ (ap (λ (s : SeatState). s.knows) from_now) (ap (λ (s : SeatState). s.knows) to_now)
          c.requires.served c.requires.counted;
    }

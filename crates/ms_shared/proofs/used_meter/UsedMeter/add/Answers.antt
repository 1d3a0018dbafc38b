use Rattle.std.proofs.Common.{rules, ap, ◌∙◌}
use Rattle.ms_shared.specs.MeterRule.{MeterSeatState, added, after_step}
use Rattle.ms_shared.proofs.MeterLemmas.{shifts, meter_seat_is}
use Rattle.ms_shared.proofs.used_meter.UsedMeter.add.Goals as goal

pub fetch_add-requires : goal.fetch_add-requires
fetch_add-requires c = (search rules, search rules, shifts _ _ _ _ _ c.seat.invariant.1)

pub returns : goal.returns
returns c =
    let e = c.fetch_add.ensures in
    meter_seat_is _ _ _ _ e.0 e.2
    ∙ ap (λ (seat : MeterSeatState). after_step seat (added seat.amount c.args.words)) c.seat.view_is

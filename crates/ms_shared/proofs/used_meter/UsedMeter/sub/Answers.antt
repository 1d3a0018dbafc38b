use Rattle.std.proofs.Common.{rules, ap, ◌∙◌}
use Rattle.ms_shared.specs.MeterRule.{MeterSeatState, taken_off, after_step}
use Rattle.ms_shared.proofs.MeterLemmas.{shifts, meter_seat_is}
use Rattle.ms_shared.proofs.used_meter.UsedMeter.sub.Goals as goal

pub fetch_sub-requires : goal.fetch_sub-requires
fetch_sub-requires c = (search rules, search rules, shifts _ _ _ _ _ c.seat.invariant.1)

pub returns : goal.returns
returns c =
    let e = c.fetch_sub.ensures in
    meter_seat_is _ _ _ _ e.0 e.2
    ∙ ap (λ (seat : MeterSeatState). after_step seat (taken_off seat.amount c.args.words)) c.seat.view_is

use Rattle.std.proofs.Common.{rules, ap, ◌∙◌}
use Rattle.ms_shared.specs.MeterRule.{MeterSeatState, after_step}
use Rattle.ms_shared.proofs.MeterLemmas.{looks, meter_seat_is}
use Rattle.ms_shared.proofs.used_meter.UsedMeter.now.Goals as goal

pub load-requires : goal.load-requires
load-requires c = (search rules, search rules, looks _ _ _ _ c.seat.invariant.1)

pub returns : goal.returns
returns c =
    let e = c.load.ensures in
    record {
      unchanged = meter_seat_is _ _ _ _ e.0 e.2
          ∙ ap (λ (seat : MeterSeatState). after_step seat seat.amount) c.seat.view_is;
    }

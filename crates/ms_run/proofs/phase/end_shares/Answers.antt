use Rattle.std.proofs.Common.{◌≡◌, ◌∙◌, sym, ap, subst, length}
use Rattle.std.specs.List.{All}
use Rattle.std.proofs.lemmas.List.{length-map}
use Rattle.ms_shared.specs.MeterRule.{MeterSeatState}
use Rattle.ms_run.specs.Metering.{amount_of, meter_of}
use Rattle.ms_run.proofs.phase.end_shares.Goals as goal

-- the seats of the meter are those of the shares
pub close-requires-clause-own : goal.close-requires-clause-own
close-requires-clause-own c =
    subst (All (λ (seat : MeterSeatState). seat.id ≡ c.args.meter.id)) (sym c.in_ok-system.ensures.meters)
    c.requires.own

pub close-requires-clause-count : goal.close-requires-clause-count
close-requires-clause-count c =
    c.requires.count ∙ c.args.shares.ok.0 ∙ sym (length-map c.args.shares.items meter_of)
    ∙ ap length (sym c.in_ok-system.ensures.meters) ∙ sym c.in_ok-system.meters.ok.0

pub returns-clause-amount : goal.returns-clause-amount
returns-clause-amount c = c.in_ok-amount.ensures.amount ∙ ap amount_of c.in_ok-system.ensures.meters

use Rattle.std.proofs.Common.{◌≡◌, ◌∙◌, sym, ap, vec_len, ℕ, List, length, replicate}
use Rattle.std.proofs.lemmas.List.{length-replicate}
use Rattle.ms_shared.specs.MeterRule.{MeterSeatState}
use Rattle.ms_run.specs.Metering.{unmoved}
use Rattle.ms_run.proofs.dealing.deal_metered.Goals as goal

-- the meter has a seat for each share
pub deal_to-requires-clause-meters : goal.deal_to-requires-clause-meters
deal_to-requires-clause-meters c =
    c.in_ok-meter.meters.ok.0 ∙ ap (λ (l : List MeterSeatState). length l) c.in_ok-meter.ensures.seats
    ∙ length-replicate c.shares.result (unmoved c.in_ok-meter.meter) ∙ c.shares.ensures.count
    ∙ sym c.requires.count

pub returns-clause-meters : goal.returns-clause-meters
returns-clause-meters c =
    let counted : vec_len c.in_ok-shares.shares ≡ c.shares.result =
    c.in_ok-shares.shares.ok.0 ∙ c.in_ok-shares.ensures.dealt.count_is ∙ c.requires.count
    ∙ sym c.shares.ensures.count in
    record {
      seats = c.in_ok-meter.ensures.meter ∙ sym counted;
      unmoved_all = c.in_ok-shares.ensures.meters ∙ c.in_ok-meter.ensures.seats
          ∙ ap (λ (n : ℕ). replicate n (unmoved c.in_ok-meter.meter)) (sym counted);
    }

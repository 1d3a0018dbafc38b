use Rattle.std.proofs.Common.{◌≡◌, ◌∙◌, List, sym, ap, subst}
use Rattle.std.specs.List.{All}
use Rattle.std.proofs.lemmas.List.Elements.{All-map}
use Rattle.ms_base.specs.State.{Machine}
use Rattle.ms_shared.specs.SeatView.{SeatState, Gathers, IsHistory}
use Rattle.ms_run.specs.Joined.{seat_of}
use Rattle.ms_run.specs.Metering.{used_words_of}
use Rattle.ms_run.specs.Shares.{IsGathered}
use Rattle.ms_run.proofs.sharing.GatherLemmas.{all_gathered, views_gathered}
use Rattle.ms_run.proofs.PhaseSettleLemmas.{are_together}
use Rattle.ms_run.proofs.metered.MeterSumLemmas.{used_machine, used_gathered}
use Rattle.ms_run.proofs.gathering.gather.Goals as goal

pub open-requires-clause-own : goal.open-requires-clause-own
open-requires-clause-own c =
    let own = λ (seat : SeatState). seat.id ≡ c.args.shared.id in
    subst (All own) (sym c.in_ok-seats.ensures.seats) (All-map own seat_of c.args.shares.items c.requires.stand.own)

pub from_parts-requires : goal.from_parts-requires
from_parts-requires c =
    are_together _ c.args.shares.items _ c.committed.ensures.sound
    (subst (λ (seats : List SeatState). Gathers seats c.in_ok-pool.pool) c.in_ok-seats.ensures.seats
    c.in_ok-pool.ensures.gathered)
    c.requires.stand.manned c.in_ok-seats.ensures.loaders c.in_ok-seats.ensures.named

pub returns-clause-gathered : goal.returns-clause-gathered
returns-clause-gathered c = record {
  gathered = λ position apart.
      subst (IsGathered position c.args.shares.items) (ap (λ (m : Machine). m.loaders) (sym c.from_parts.ensures.machine))
      (all_gathered position c.args.shares.items c.in_ok-seats.loaders c.in_ok-seats.ensures.loaders apart);
  good = c.from_parts.ensures.good;
  limits = ap (λ (m : Machine). m.limits) c.from_parts.ensures.machine ∙ c.in_ok-pool.ensures.limits;
  history = record {
    last = c.in_ok-pool.pool;
    ends = record {
      loaders = c.in_ok-seats.loaders;
      machine = c.from_parts.ensures.machine;
      together = are_together _ c.args.shares.items _ c.committed.ensures.sound
          (subst (λ (seats : List SeatState). Gathers seats c.in_ok-pool.pool) c.in_ok-seats.ensures.seats
          c.in_ok-pool.ensures.gathered)
          c.requires.stand.manned c.in_ok-seats.ensures.loaders c.in_ok-seats.ensures.named;
    };
    history = subst (λ (seats : List SeatState). IsHistory c.args.shared.first seats c.in_ok-pool.pool)
        c.in_ok-seats.ensures.seats c.in_ok-pool.ensures.history;
    here = λ position apart at share name found goes.
        sym (views_gathered position c.args.shares.items c.in_ok-seats.loaders c.in_ok-seats.ensures.loaders apart at share
        name found goes);
  };
  used = ap used_words_of c.from_parts.ensures.machine ∙ used_machine c.in_ok-pool.pool c.in_ok-seats.loaders
      ∙ used_gathered c.args.shares.items c.in_ok-seats.loaders c.in_ok-seats.ensures.loaders;
}

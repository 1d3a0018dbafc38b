use Rattle.std.proofs.Common.{◌≡◌, ◌≤◌, ◌∙◌, sym, subst, vec_len, ℕ}
use Rattle.ms_run.specs.Turn.{position_in}
use Rattle.ms_run.specs.Shares.{AreWithin, position_for}
use Rattle.ms_run.proofs.sharing.StandByLemmas.{within_still}
use Rattle.ms_run.proofs.sharing.SeatsLemmas.{seats_are, seats_count}
use Rattle.ms_run.proofs.sharing.DealLemmas.{are_dealt}
use Rattle.ms_run.proofs.sharing.ByTurnLemmas.{worked_by_turn}
use Rattle.ms_run.proofs.TurnLemmas.{position_within}
use Rattle.ms_run.proofs.dealing.deal.Goals as goal

pub deal_metered-requires-clause-seats : goal.deal_metered-requires-clause-seats
deal_metered-requires-clause-seats c =
    seats_are c.in_ok-shared.shared c.shares-count.result c.in_ok-shared.seats.items c.args.pool c.args.loaders c.in_ok-shared.ensures.seats
    c.requires.together

pub returns-clause-dealt : goal.returns-clause-dealt
returns-clause-dealt c =
    let few : 1 ≤ c.shares-count.result =
    subst (λ (n : ℕ). 1 ≤ n) (sym c.shares-count.ensures.count) c.shares-count.ensures.turn.some in
    let counted : vec_len c.in_ok-shared.seats ≡ c.shares-count.result =
    c.in_ok-shared.seats.ok.0
    ∙ seats_count c.in_ok-shared.shared c.shares-count.result c.in_ok-shared.seats.items c.args.pool few c.in_ok-shared.ensures.seats in
    are_dealt (position_for (position_in c.args.turn.now) c.args.lines.now) c.in_ok-shared.shared
    (vec_len c.in_ok-shared.seats) c.args.lines.now c.args.loaders
    c.in_ok-shares.shares.items c.in_ok-shares.ensures.dealt
    (subst (AreWithin (position_for (position_in c.args.turn.now) c.args.lines.now))
    (sym (counted ∙ c.shares-count.ensures.count))
    (within_still (position_in c.args.turn.now) c.args.lines.now _ c.shares-count.ensures.turn.some
    (position_within c.args.turn.now c.shares-count.ensures.turn.some)))
    (c.in_ok-shared.ensures.lock ∙ sym counted)

pub returns-clause-workers : goal.returns-clause-workers
returns-clause-workers c = record {
  count =
      let few : 1 ≤ c.shares-count.result =
      subst (λ (n : ℕ). 1 ≤ n) (sym c.shares-count.ensures.count) c.shares-count.ensures.turn.some in
      c.in_ok-shares.ensures.dealt.count_is ∙ c.in_ok-shared.seats.ok.0
      ∙ seats_count c.in_ok-shared.shared c.shares-count.result c.in_ok-shared.seats.items c.args.pool few
      c.in_ok-shared.ensures.seats
      ∙ c.shares-count.ensures.count;
  workers =
      worked_by_turn c.args.turn.now c.args.lines.now c.in_ok-shares.shares.items c.requires.shared
      c.in_ok-shares.ensures.workers (returns-clause-dealt c).tasks;
}

pub deal_metered-requires-clause-count : goal.deal_metered-requires-clause-count
deal_metered-requires-clause-count c =
    let few : 1 ≤ c.shares-count.result =
    subst (λ (n : ℕ). 1 ≤ n) (sym c.shares-count.ensures.count) c.shares-count.ensures.turn.some in
    c.in_ok-shared.seats.ok.0
    ∙ seats_count c.in_ok-shared.shared c.shares-count.result c.in_ok-shared.seats.items c.args.pool few c.in_ok-shared.ensures.seats
    ∙ c.shares-count.ensures.count

pub returns-clause-first : goal.returns-clause-first
returns-clause-first c = c.in_ok-shared.ensures.first

pub returns-clause-used : goal.returns-clause-used
returns-clause-used c = c.in_ok-shares.ensures.used

use Rattle.std.proofs.Common.{◌+◌, ◌∙◌, sym, ap, arith, vec_len, length, List, inl, inr, refl}
use Rattle.std.proofs.lemmas.Result.{IfOk-weaker}
use Rattle.std.proofs.lemmas.List.{nil_from_length}
use Rattle.ms_shared.specs.SeatView.{SeatState}
use Rattle.ms_run.specs.Turn.{position_in}
use Rattle.ms_run.specs.Shares.{position_for, tasks_by}
use Rattle.ms_run.proofs.sharing.ByTurnLemmas.{workers_none, workers_pushed, workers_put}
use Rattle.ms_run.proofs.sharing.StandByLemmas.{handed_at, same_tasks}
use Rattle.ms_run.proofs.sharing.DealLemmas.{dealing_starts, dealing_on, dealing_ends, next_free}
use Rattle.ms_run.proofs.sharing.SeatsLemmas.{beside_none}
use Rattle.ms_run.proofs.sharing.ListingLemmas.{left_starts, left_more}
use Rattle.ms_run.proofs.metered.DealtUseLemmas.{shared_starts, shared_on, used_ends, meters_end}
use Rattle.ms_run.proofs.dealing.deal_to.Goals as goal

pub loop-seat-init : goal.loop-seat-init
loop-seat-init c = (
  dealing_starts (position_for (position_in c.args.turn.now) c.args.lines.now) c.args.shared.now
      (vec_len c.args.seats) c.args.lines.now c.args.loaders
      c.args.seats.items c.remove-seat.result _ _
      c.requires.seats c.remove-seat.ensures.value
      (c.into_iter-seat-iterator.ensures.into_iter_gives.0 ∙ c.remove-seat.ensures.items)
      (sym c.args.seats.ok.0) c.in_ok-shares.ensures.items,
  omega (arith, c.len.ensures, c.in_ok-shares.ensures.capacity),
  left_starts (position_in c.args.turn.now) c.args.lines.now _ c.in_ok-lists.lists.items c.in_ok-lists.ensures.listed,
  c.in_ok-lists.ensures.count ∙ c.len-2.ensures,
  shared_starts c.args.loaders _ _ _ _ c.in_ok-shares.ensures.items c.remove-first_meter.ensures.items
      (omega (
        arith,
        c.requires.meters,
        c.remove-first_meter.ensures.len,
        c.remove-first_meter.new.self.ok.0,
        c.remove-seat.ensures.len,
        c.remove-seat.new.self.ok.0,
        ap (λ (l : List SeatState). length l) c.into_iter-seat-iterator.ensures.into_iter_gives.0,
      )),
  workers_none c.args.turn.now.active 1 c.in_ok-shares.shares.items c.in_ok-shares.ensures.items,
)

pub share_beside-requires : goal.share_beside-requires
share_beside-requires c =
    let free = next_free _ _ _ _ _ _ _ _ _ _ _ c.in-Some.ensures.steps.0 c.loop-seat.invariant.0 in
    record {
      own = c.loop-seat.invariant.0.own;
      to_own = free.0;
      beside = beside_none _ _ _ c.loop-seat.invariant.0.manned free.1;
    }

pub push_reserved-requires : goal.push_reserved-requires
push_reserved-requires c =
    omega (
      arith,
      c.loop-seat.invariant.0.count_is,
      ap (λ (l : List SeatState). length l) c.in-Some.ensures.steps.0,
      c.loop-seat.invariant.1,
      c.loop-seat.shares.ok.0,
    )

pub loop-seat-preserved : goal.loop-seat-preserved
loop-seat-preserved c = (
  dealing_on (position_for (position_in c.args.turn.now) c.args.lines.now) c.args.shared.now
      (vec_len c.args.seats) c.args.lines.now c.args.loaders
      c.loop-seat.first.seat c.share_beside.new.first.seat
      c.loop-seat.first.loaders c.share_beside.new.first.loaders c.in_ok-share.share.seat
      c.in_ok-share.share.loaders
      c.in-Some.seat _ c.loop-seat.shares.items _ c.in_ok-share.share (c.len-at.result + 1)
      (rw c.in-Some.ensures.steps.0 at c.loop-seat.invariant.0)
      (omega (arith, c.len-at.ensures, c.loop-seat.shares.ok.0))
      c.in_ok-share.ensures.crews c.in_ok-share.ensures.first c.in_ok-share.ensures.seat
      (handed_at (position_in c.args.turn.now) c.args.lines.now (c.len-at.result + 1)
      (tasks_by c.args.lines.now c.take_list-indices.result.items)
      c.loop-seat.first.loaders c.share_beside.new.first.loaders c.in_ok-share.share.loaders (omega arith)
      (c.loop-seat.invariant.2 (c.len-at.result + 1) c.take_list-indices.result
      (inr (omega (arith, c.len-at.ensures))) c.take_list-indices.ensures.taken)
      c.in_ok-share.ensures.handed)
      (record {
        seat_is = refl;
        loaders_are = refl;
        tasks = ap (tasks_by c.args.lines.now) c.in_ok-share.ensures.made.indices_are
            ∙ c.loop-seat.invariant.2 (c.len-at.result + 1) c.take_list-indices.result
            (inr (omega (arith, c.len-at.ensures))) c.take_list-indices.ensures.taken
            ∙ sym (same_tasks (position_in c.args.turn.now) c.args.lines.now (c.len-at.result + 1));
        room = c.in_ok-share.ensures.made.room;
        none = c.in_ok-share.ensures.made.none;
      }) c.push_reserved.ensures.items,
  omega (arith, c.push_reserved.ensures.capacity, c.loop-seat.invariant.1),
  left_more (position_in c.args.turn.now) c.args.lines.now (vec_len c.loop-seat.shares) _
      (c.len-at.result + 1) c.loop-seat.lists.items c.take_list-indices.new.lists.items c.loop-seat.invariant.2
      c.push_reserved.ensures.len (omega (arith, c.len-at.ensures)) c.take_list-indices.ensures.others,
  c.take_list-indices.ensures.count ∙ c.loop-seat.invariant.3,
  shared_on c.args.loaders c.loop-seat.first.loaders c.share_beside.new.first.loaders
      c.in_ok-share.share.loaders _
      c.loop-seat.meters.items _ c.remove-meter.result c.in-Some.seat _
      c.loop-seat.shares.items _ c.in_ok-share.share (rw c.in-Some.ensures.steps.0 at c.loop-seat.invariant.4)
      c.in_ok-share.ensures.used
      c.remove-meter.ensures.value c.remove-meter.ensures.items refl
      c.in_ok-share.ensures.made.meter_is c.push_reserved.ensures.items,
  workers_pushed c.args.turn.now.active (c.len-at.result + 1) c.loop-seat.shares.items _ c.in_ok-share.share
      c.loop-seat.invariant.5 (c.in_ok-share.ensures.made.worker_is ∙ c.worker-worker.ensures) (omega (arith, c.len-at.ensures, c.loop-seat.shares.ok.0))
      c.push_reserved.ensures.items,
)

pub returns-clause-workers : goal.returns-clause-workers
returns-clause-workers c = IfOk-weaker c.put_first.result _ _ (λ all is.
    workers_put c.args.turn.now.active c.loop-seat.shares.items all.items c.in_ok-share-2.share c.loop-seat.invariant.5
    (c.in_ok-share-2.ensures.made.worker_is ∙ c.worker.ensures) is) c.put_first.ensures.items

pub returns-clause-dealt : goal.returns-clause-dealt
returns-clause-dealt c = IfOk-weaker c.put_first.result _ _ (λ all is.
    dealing_ends (position_for (position_in c.args.turn.now) c.args.lines.now) c.args.shared.now
    (vec_len c.args.seats) c.args.lines.now c.args.loaders
    c.loop-seat.first.seat c.loop-seat.first.loaders
    c.loop-seat.seat-iterator.rest.items c.loop-seat.shares.items _ c.in_ok-share-2.share
    (nil_from_length c.loop-seat.seat-iterator.rest.items
    (sym c.loop-seat.seat-iterator.rest.ok.0 ∙ c.in-None.ensures.steps.0))
    c.loop-seat.invariant.0
    (record {
      seat_is = c.in_ok-share-2.ensures.seat;
      loaders_are = c.in_ok-share-2.ensures.loaders;
      tasks = ap (tasks_by c.args.lines.now) c.in_ok-share-2.ensures.made.indices_are
          ∙ c.loop-seat.invariant.2 0 c.take_list-indices-2.result (inl refl) c.take_list-indices-2.ensures.taken
          ∙ sym (same_tasks (position_in c.args.turn.now) c.args.lines.now 0);
      room = c.in_ok-share-2.ensures.made.room;
      none = c.in_ok-share-2.ensures.made.none;
    }) is)
    c.put_first.ensures.items

pub take_list-indices-requires : goal.take_list-indices-requires
take_list-indices-requires c = record {
  within = omega (
    arith,
    c.loop-seat.invariant.0.count_is,
    ap (λ (l : List SeatState). length l) c.in-Some.ensures.steps.0,
    c.loop-seat.shares.ok.0,
    c.len-at.ensures,
    c.loop-seat.invariant.3,
  );
}

pub take_list-indices-requires-2 : goal.take_list-indices-requires-2
take_list-indices-requires-2 c =
    record { within = omega (arith, c.loop-seat.invariant.0.count_is, c.loop-seat.invariant.3) }

pub remove-meter-requires : goal.remove-meter-requires
remove-meter-requires c =
    omega (
      arith,
      c.loop-seat.meters.ok.0,
      c.loop-seat.invariant.4.count,
      ap (λ (l : List SeatState). length l) c.in-Some.ensures.steps.0,
    )

pub returns-clause-meters : goal.returns-clause-meters
returns-clause-meters c = IfOk-weaker c.put_first.result _ _ (λ all is.
    meters_end c.args.loaders c.loop-seat.first.loaders c.args.meters.items _ c.remove-first_meter.result
    c.loop-seat.seat-iterator.rest.items c.loop-seat.shares.items _ c.in_ok-share-2.share
    c.loop-seat.invariant.4
    (nil_from_length c.loop-seat.seat-iterator.rest.items
    (sym c.loop-seat.seat-iterator.rest.ok.0 ∙ c.in-None.ensures.steps.0))
    (omega (
      arith,
      c.args.meters.ok.0,
      c.requires.meters,
      c.args.seats.ok.0,
      ap (λ (l : List SeatState). length l) c.requires.seats.are,
    ))
    c.remove-first_meter.ensures.value c.in_ok-share-2.ensures.made.meter_is is)
    c.put_first.ensures.items

pub returns-clause-used : goal.returns-clause-used
returns-clause-used c = IfOk-weaker c.put_first.result _ _ (λ all is.
    used_ends c.args.loaders c.loop-seat.first.loaders _ _ c.loop-seat.seat-iterator.rest.items c.loop-seat.shares.items
    _ c.in_ok-share-2.share
    c.loop-seat.invariant.4 c.in_ok-share-2.ensures.loaders is)
    c.put_first.ensures.items

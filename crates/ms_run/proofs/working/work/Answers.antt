use Rattle.std.proofs.Common.{◌≡◌, ◌<◌, ◌∙◌, ap, arith, get_or, length, subst}
use Rattle.std.proofs.lemmas.List.{length-map}
use Rattle.ms_run.specs.Gating.{AreTasksGated}
use Rattle.ms_run.specs.Shares.{task_at, tasks_by}
use Rattle.ms_run.proofs.GateLemmas.{all_tasks_gated, more_tasks_gated, no_task_gated}
use Rattle.ms_run.proofs.sharing.WorkLemmas.{task_read, work_begins, work_goes_on, work_ends}
use Rattle.ms_run.proofs.working.work.Goals as goal

pub loop-at-init : goal.loop-at-init
loop-at-init g c = let ready = c.requires.0 in let indices = c.deref-at-items.result.now in record {
  worked = work_begins c.args.share c.at-pool.result (tasks_by c.args.context.now.lines.now indices) ready.manned ready.room ready.none
      c.at-pool.ensures (length-map indices (task_at c.args.context.now.lines.now) ∙ c.deref-at-items.ensures.len);
  gated = no_task_gated (g.G.Gate.told c.args.context.now.gate.now) c.args.share.worker;
}

pub push_reserved-requires : goal.push_reserved-requires
push_reserved-requires g c = let its = c.loop-at.invariant.worked in
    omega (
      arith,
      its.count,
      its.room,
      c.loop-at-test.true,
      length-map c.deref-at-items.result.now (task_at c.args.context.now.lines.now),
    )

pub loop-at-preserved : goal.loop-at-preserved
loop-at-preserved g c =
    let answered = c.answer_metered-reply in
    let pushed = c.push_reserved.ensures in
    let indices = c.deref-at-items.result.now in
    let task = c.read_task-task.result in
    let there : get_or (tasks_by c.args.context.now.lines.now indices) c.loop-at.at-index task ≡ task =
    task_read c.args.context.now.lines.now indices c.loop-at.at-index _ task c.loop-at-test.true c.read_task-task.ensures in
    let within : c.loop-at.at-index < length (tasks_by c.args.context.now.lines.now indices) =
    omega (arith, c.loop-at-test.true, length-map indices (task_at c.args.context.now.lines.now)) in
    record {
      worked = work_goes_on c.args.share c.loop-at.pool answered.new.pool c.loop-at.counted answered.new.seat
          c.used_now-used.new.seat
          c.loop-at.loaders answered.new.loaders (tasks_by c.args.context.now.lines.now indices)
          c.loop-at.at-index c.loop-at.replies c.push_reserved.new.self task answered.result _ c.loop-at.invariant.worked
          within there answered.ensures.lock answered.ensures.answered answered.ensures.made
          answered.ensures.touches answered.ensures.moved c.used_now-used.ensures pushed.items pushed.len pushed.capacity;
      gated = more_tasks_gated (g.G.Gate.told c.args.context.now.gate.now) c.args.share.worker (tasks_by c.args.context.now.lines.now indices)
          c.loop-at.at-index task c.loop-at.invariant.gated within there (record {
            before = c.before-in-loop-at.ensures;
            used = c.used_now-used.result;
            after = c.after.ensures;
          });
    }

pub returns-clause-worked : goal.returns-clause-worked
returns-clause-worked g c =
    let indices = c.deref-at-items.result.now in
    let end = c.loop-at.auto.at-index-end in
    work_ends c.args.context.now.lines.now c.args.share c.loop-at.pool c.into_seat.result c.loop-at.counted c.loop-at.loaders
    (tasks_by c.args.context.now.lines.now indices) c.loop-at.at-index c.loop-at.replies
    c.loop-at.invariant.worked c.into_seat.ensures (ap (tasks_by c.args.context.now.lines.now) c.deref-at-items.ensures.value)
    (omega (arith, c.loop-at-test.false, end, length-map indices (task_at c.args.context.now.lines.now)))

pub returns-clause-gated : goal.returns-clause-gated
returns-clause-gated g c =
    let indices = c.deref-at-items.result.now in
    let end = c.loop-at.auto.at-index-end in
    subst (λ items. AreTasksGated (g.G.Gate.told c.args.context.now.gate.now) c.args.share.worker (tasks_by c.args.context.now.lines.now items))
    c.deref-at-items.ensures.value
    (all_tasks_gated (g.G.Gate.told c.args.context.now.gate.now) c.args.share.worker (tasks_by c.args.context.now.lines.now indices)
    c.loop-at.at-index c.loop-at.invariant.gated
    (omega (arith, c.loop-at-test.false, end, length-map indices (task_at c.args.context.now.lines.now))))

use Rattle.std.proofs.Common.{rules, arith, ◌∙◌, sym}
use Rattle.ms_run.proofs.ActiveLemmas.{found_first, found_step, found_past, found_all, found_full}
use Rattle.ms_run.proofs.replays.ReplayLemmas.{none_asked}
use Rattle.ms_run.proofs.turn.find_active.Goals.{in-Step, in_default}
use Rattle.ms_run.proofs.turn.find_active.Goals as goal

pub loop-line-init : goal.loop-line-init
loop-line-init c = (
  search rules,
  found_first c.args.first.now c.args.phase c.args.workers c.args.lines.now _ c.args.positions.now (search rules)
      c.requires.positions,
)

pub loop-line-preserved : goal.loop-line-preserved
loop-line-preserved c =
    let found = c.loop-line.invariant.1 in
    elim c.match-command.branch [
      | in-Step w ↦ rw (w.active-is, w.positions-is) (
        w.add_active.ensures.room,
        found_step c.args.first.now c.args.phase c.args.workers c.args.lines.now c.loop-line.line-index _ _ _ _ _
            c.loop-line.active.items c.loop-line.positions _ _ (omega (arith, c.requires.phase)) c.requires.few c.loop-line-test.true
            (omega (arith, found.few, c.if-len-workers.false, c.len.ensures, c.loop-line.active.ok.0)) found
            c.line-item.is (sym c.command.ensures ∙ w.in-Step.is) w.loader_named.ensures w.worker_at-worker.ensures
            w.add_active.ensures.added,
      )
      | in_default w ↦ rw (w.active-is, w.positions-is) (
        c.loop-line.invariant.0,
        found_past c.args.first.now c.args.phase c.args.workers c.args.lines.now c.loop-line.line-index _ _
            c.loop-line.active.items c.loop-line.positions c.loop-line-test.true found c.line-item.is
            (none_asked _ (λ step is. w.in_default.not-Step step (c.command.ensures ∙ is))),
      )
    ]

pub returns-then-len-workers-clause-shares : goal.returns-then-len-workers-clause-shares
returns-then-len-workers-clause-shares c =
    found_full c.args.first.now c.args.phase c.args.workers c.args.lines.now _ c.loop-line.active.items c.loop-line.positions
    (omega (arith, c.requires.phase)) c.loop-line.invariant.1
    (omega (arith, c.if-len-workers.true, c.len.ensures, c.loop-line.active.ok.0))

pub returns-else-is_empty-clause-shares : goal.returns-else-is_empty-clause-shares
returns-else-is_empty-clause-shares c =
    found_all c.args.first.now c.args.phase c.args.workers c.args.lines.now c.loop-line.line-index
    c.loop-line.active.items c.loop-line.positions c.loop-line.invariant.1
    (let end = c.loop-line.auto.line-index-end in omega (arith, c.loop-line-test.false, end))

use Rattle.std.proofs.Common.{sym, ap, subst, ◌∙◌, refl, map}
use Rattle.ms_base.specs.State.{Machine}
use Rattle.ms_pool.specs.Ledger.{Ledger}
use Rattle.ms_run.specs.Metering.{used_words_of, meter_of}
use Rattle.ms_loaders.specs.System.{machine_of, AreTogether}
use Rattle.ms_run.specs.Turn.{position_in, worker_in}
use Rattle.ms_run.specs.Shares.{position_for}
use Rattle.ms_run.proofs.sharing.StandByLemmas.{same_tasks}
use Rattle.ms_run.proofs.WorkedLemmas.{own_seats, all_manned, same_count, all_answered, still_apart}
use Rattle.ms_run.proofs.GateLemmas.{shares_gated}
use Rattle.ms_run.proofs.PhaseLemmas.{ended, phase_added}
use Rattle.ms_run.proofs.DetailLemmas.{said_detailed}
use Rattle.ms_run.proofs.metered.MeterSumLemmas.{ready_for, own_meters, used_machine, used_after}
use Rattle.ms_run.proofs.phase.run_shares.Goals as goal

pub merge-requires-clause-count : goal.merge-requires-clause-count
merge-requires-clause-count g c =
    c.in_ok-shares.shares.ok.0 ∙ same_count _ _ _ c.in_ok-shares.ensures.worked ∙ c.in_ok-shared.ensures.workers.count

pub merge-requires-clause-answered : goal.merge-requires-clause-answered
merge-requires-clause-answered g c =
    all_answered (position_in c.args.turn.now) c.in_ok-shared.shares.items c.in_ok-shares.shares.items c.args.lines.now
    (λ at share found. c.in_ok-shared.ensures.dealt.tasks at share found
    ∙ same_tasks (position_in c.args.turn.now) c.args.lines.now at)
    c.in_ok-shares.ensures.worked

pub end_shares-requires-clause-stand : goal.end_shares-requires-clause-stand
end_shares-requires-clause-stand g c = record {
  own = own_seats c.in_ok-shared.shared c.args.lines.now c.in_ok-shared.shares.items c.in_ok-shares.shares.items
      c.in_ok-shared.ensures.dealt.ready c.in_ok-shares.ensures.worked;
  manned = all_manned c.args.lines.now c.in_ok-shared.shares.items c.in_ok-shares.shares.items
      c.in_ok-shares.ensures.worked;
  all = c.in_ok-shared.ensures.dealt.count ∙ sym (same_count _ _ _ c.in_ok-shares.ensures.worked)
      ∙ sym c.in_ok-shares.shares.ok.0;
}

pub end_shares-requires-clause-apart : goal.end_shares-requires-clause-apart
end_shares-requires-clause-apart g c = (
  position_for (position_in c.args.turn.now) c.args.lines.now,
  still_apart (position_for (position_in c.args.turn.now) c.args.lines.now) c.in_ok-shared.shares.items
      c.in_ok-shares.shares.items c.args.lines.now
      c.in_ok-shared.ensures.dealt.apart c.in_ok-shared.ensures.dealt.tasks c.in_ok-shares.ensures.worked,
)

pub work_all-requires-after_bounds : goal.work_all-requires-after_bounds
work_all-requires-after_bounds g c κs within =
    ready_for c.in_ok-shared.shared c.in_ok-shared.meter _ c.in_ok-shared.shares.items
    c.in_ok-shared.ensures.dealt.ready c.in_ok-shared.ensures.meters.unmoved_all

pub end_shares-requires-clause-own : goal.end_shares-requires-clause-own
end_shares-requires-clause-own g c =
    own_meters c.in_ok-shared.meter _ c.args.lines.now c.in_ok-shared.shares.items c.in_ok-shares.shares.items
    (map meter_of c.in_ok-shares.shares.items)
    c.in_ok-shared.ensures.meters.unmoved_all c.in_ok-shares.ensures.worked refl

pub end_shares-requires-clause-count : goal.end_shares-requires-clause-count
end_shares-requires-clause-count g c =
    c.in_ok-shared.ensures.meters.seats ∙ c.in_ok-shared.shares.ok.0
    ∙ sym (same_count _ _ _ c.in_ok-shares.ensures.worked) ∙ sym c.in_ok-shares.shares.ok.0

pub returns-clause-phase : goal.returns-clause-phase
returns-clause-phase g c = λ before same.
    let merged = c.in_ok-merge.ensures in (
      merged.0,
      merged.1,
      (
        said_detailed c.args.manner.now.verbosity c.args.lines.now merged.0 merged.2.0 merged.2.1,
        phase_added (worker_in before) c.args.lines.now merged.0 c.args.run _
            (ended before c.args.turn.now c.in_ok-shared.shared c.in_ok-shared.shares.items
            c.in_ok-shares.shares.items c.args.lines.now
            merged.0 merged.2.0 c.into_parts-pool.result.1 c.args.run.system _ same
            c.in_ok-shared.ensures.dealt c.in_ok-shares.ensures.worked
            merged.2.1 merged.2.2
            c.requires.good c.in_ok-system.ensures.gathered.good
            (sym c.into_parts-pool.ensures.machine
            ∙ ap (λ (l : Ledger). machine_of l c.into_parts-pool.result.1) (sym c.in_ok-shared.ensures.first))
            (subst (λ (l : Ledger). AreTogether l c.into_parts-pool.result.1) (sym c.in_ok-shared.ensures.first)
            c.into_parts-pool.ensures.together)
            c.in_ok-system.ensures.gathered.history c.in_ok-system.ensures.gathered.limits
            (ap (λ (l : Ledger). l.limits) c.in_ok-shared.ensures.first
            ∙ ap (λ (m : Machine). m.limits) c.into_parts-pool.ensures.machine))
            c.raise.ensures.peaks,
      ),
    )

pub raise-requires : goal.raise-requires
raise-requires g c = λ kept.
    used_after c.in_ok-shared.meter _ c.args.lines.now c.in_ok-shared.shares.items
    c.in_ok-shares.shares.items
    (map meter_of c.in_ok-shares.shares.items) _ _ c.in_ok-system.system
    c.in_ok-shared.ensures.meters.unmoved_all c.in_ok-shares.ensures.worked refl
    (c.requires.used ∙ ap used_words_of (sym c.into_parts-pool.ensures.machine)
    ∙ used_machine c.into_parts-pool.result.0 c.into_parts-pool.result.1 ∙ sym c.in_ok-shared.ensures.used)
    c.in_ok-system.ensures.amount c.in_ok-system.ensures.gathered.used c.in_ok-system.ensures.gathered.good

pub returns-clause-counted : goal.returns-clause-counted
returns-clause-counted g c = λ kept. record {
  good = c.in_ok-system.ensures.gathered.good;
  used = λ counts. used_after c.in_ok-shared.meter _ c.args.lines.now c.in_ok-shared.shares.items
      c.in_ok-shares.shares.items
      (map meter_of c.in_ok-shares.shares.items) _ _ c.in_ok-system.system
      c.in_ok-shared.ensures.meters.unmoved_all c.in_ok-shares.ensures.worked refl
      (c.requires.used ∙ ap used_words_of (sym c.into_parts-pool.ensures.machine)
      ∙ used_machine c.into_parts-pool.result.0 c.into_parts-pool.result.1 ∙ sym c.in_ok-shared.ensures.used)
      c.in_ok-system.ensures.amount c.in_ok-system.ensures.gathered.used c.in_ok-system.ensures.gathered.good;
  kept = c.raise.ensures.kept ∙ kept;
  counting = λ full. refl;
}

pub returns-clause-gated : goal.returns-clause-gated
returns-clause-gated g c =
    shares_gated (g.G.Gate.told c.args.manner.now.gate.now) (worker_in c.args.turn.now)
    (position_for (position_in c.args.turn.now) c.args.lines.now) c.in_ok-shared.shared c.in_ok-shared.shares.items
    c.args.lines.now c.into_parts-pool.result.1 c.in_ok-shared.ensures.dealt c.in_ok-shared.ensures.workers.workers
    c.in_ok-shares.ensures.gated

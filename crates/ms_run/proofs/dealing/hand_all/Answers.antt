use Rattle.std.proofs.Common.{◌∙◌, ◌≡◌, ◌+◌, ap, arith, drop, length, sym, subst, refl}
use lib.Seq.{drop-length}
use Rattle.std.proofs.lemmas.List.{length-map}
use Rattle.ms_run.specs.Shares.{name_with, names_in, task_at, tasks_by}
use Rattle.ms_run.proofs.sharing.HandingLemmas.{IsHanding, handing_starts, handing_on, handing_ends}
use Rattle.ms_run.proofs.sharing.HandedNamesLemmas.{none_handed}
use Rattle.ms_run.proofs.sharing.StandByLemmas.{names_from}
use Rattle.ms_run.proofs.sharing.DealLemmas.{same_then}
use Rattle.ms_run.proofs.sharing.WorkLemmas.{task_read}
use Rattle.ms_run.proofs.dealing.hand_all.Goals as goal
use Rattle.ms_run.proofs.dealing.hand_all.Goals.{in-Some+then-contains+in_ok-hand_on, in-Some+else-contains, in_default}

pub loop-at-init : goal.loop-at-init
loop-at-init c = (
  c.requires.crews,
  handing_starts c.args.from.now.loaders c.args.to.now.loaders (names_in (tasks_by c.args.lines.now c.args.indices.now)) _
      c.requires.none refl,
  refl,
  record { number = refl; events = refl },
  record { number = refl; events = refl },
)

pub hand_on-requires : goal.hand_on-requires
hand_on-requires c = record {
  there = sym c.contains.ensures ∙ c.if-contains.true;
  crews = c.loop-at.invariant.0;
}

pub loop-at-preserved : goal.loop-at-preserved
loop-at-preserved c =
    let tasks = tasks_by c.args.lines.now c.args.indices.now in
    let named_ones = names_in tasks in
    let from = c.loop-at.from.loaders in
    let to = c.loop-at.to.loaders in
    let next : IsHanding named_ones c.args.from.now.loaders from to
    (name_with c.loader_named.result (names_in (drop (c.loop-at.at-index + 1) tasks))) =
    subst (IsHanding named_ones c.args.from.now.loaders from to)
    (names_from tasks c.loop-at.at-index c.read_task-task.result
    (omega (arith, c.loop-at-test.true, length-map c.args.indices.now (task_at c.args.lines.now)))
    (task_read c.args.lines.now c.args.indices.now c.loop-at.at-index _ c.read_task-task.result c.loop-at-test.true
    c.read_task-task.ensures)
    ∙ ap (λ o. name_with o (names_in (drop (c.loop-at.at-index + 1) tasks))) (sym c.loader_named.ensures))
    c.loop-at.invariant.1 in
    elim c.match-loader_named.branch [
      | in-Some+then-contains+in_ok-hand_on w ↦ rw (w.from-is, w.to-is) (
        w.in_ok-hand_on.ensures.crews,
        handing_on named_ones c.args.from.now.loaders from to _ _ w.in-Some.name _
            (rw w.in-Some.is at next) w.in_ok-hand_on.ensures.handed,
        w.in_ok-hand_on.ensures.used ∙ c.loop-at.invariant.2,
        same_then _ _ _ c.loop-at.invariant.3 w.in_ok-hand_on.ensures.from,
        same_then _ _ _ c.loop-at.invariant.4 w.in_ok-hand_on.ensures.to,
      )
      | in-Some+else-contains w ↦ rw (w.from-is, w.to-is) (
        c.loop-at.invariant.0,
        handing_on named_ones c.args.from.now.loaders from to from to w.in-Some.name _
            (rw w.in-Some.is at next)
            (none_handed w.in-Some.name from to (sym w.contains.ensures ∙ w.if-contains.false)),
        c.loop-at.invariant.2,
        c.loop-at.invariant.3,
        c.loop-at.invariant.4,
      )
      | in_default w ↦ rw (w.from-is, w.to-is) (
        c.loop-at.invariant.0,
        rw w.in_default.is at next,
        c.loop-at.invariant.2,
        c.loop-at.invariant.3,
        c.loop-at.invariant.4,
      )
    ]

pub returns-clause-crews : goal.returns-clause-crews
returns-clause-crews c = c.loop-at.invariant.0

pub returns-clause-handed : goal.returns-clause-handed
returns-clause-handed c =
    let tasks = tasks_by c.args.lines.now c.args.indices.now in
    let end : c.loop-at.at-index ≡ length tasks =
    omega (
      arith,
      c.loop-at-test.false,
      c.loop-at.auto.at-index-end,
      length-map c.args.indices.now (task_at c.args.lines.now),
    ) in
    handing_ends (names_in tasks) c.args.from.now.loaders c.loop-at.from.loaders c.loop-at.to.loaders
    (subst (λ left. IsHanding (names_in tasks) c.args.from.now.loaders c.loop-at.from.loaders
    c.loop-at.to.loaders (names_in left))
    (ap (λ n. drop n tasks) end ∙ drop-length tasks) c.loop-at.invariant.1)

pub returns-clause-used : goal.returns-clause-used
returns-clause-used c = c.loop-at.invariant.2

pub returns-clause-from : goal.returns-clause-from
returns-clause-from c = c.loop-at.invariant.3

pub returns-clause-to : goal.returns-clause-to
returns-clause-to c = c.loop-at.invariant.4

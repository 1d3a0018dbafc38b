-- A phase put together from its parts: how its lines and loaders were dealt to shares, how each
-- share was worked, and how replies and loaders came together again. Used by `run_phase`.
use Rattle.std.proofs.Common.{◌≡◌, ◌<◌, ◌==◌, ℕ, Some, None, Option, List, [], ◌∷◌, map, length, refl, sym, ap, ◌∙◌}
use Rattle.std.proofs.Common.{subst, arith, slice_get, ◌++◌, ◌+◌, ◌%◌}
use Rattle.std.specs.List.{AllByRecursion}
use Rattle.std.proofs.lemmas.Bool.{eq-eqb}
use Rattle.std.proofs.lemmas.List.Elements.{recursion_from_All, All-from_recursion}
use Rattle.ms_base.specs.declared.step.Step.{Step}
use Rattle.ms_base.specs.Names.{AreNamed}
use Rattle.ms_base.specs.Request.{loader_of}
use Rattle.ms_base.specs.State.{Machine}
use Rattle.ms_base.specs.Good.{IsGood}
use Rattle.ms_trace.specs.declared.trace.Line.{Line}
use Rattle.ms_answers.specs.declared.replies.Answer.{Answer}
use Rattle.ms_loader.specs.Loader.{LoaderView}
use Rattle.ms_loaders.specs.System.{machine_of, AreTogether}
use Rattle.std.proofs.lemmas.List.{length-map}
use Rattle.ms_shared.specs.History.{Event, events_of, AreBelow}
use Rattle.ms_shared.specs.SeatView.{LockState}
use Rattle.ms_run.specs.Acts.{events_by}
use Rattle.ms_run.specs.Joined.{IsMadeFrom, seat_of}
use Rattle.ms_base.specs.Run.Own.{Said, ArePurged}
use Rattle.ms_base.proofs.own.OwnRunLemmas.{workers_replies_own}
use Rattle.ms_run.specs.Counting.{GoesOnBy, GoesOnTo}
use Rattle.ms_run.specs.Course.{Course, on_to, passed}
use Rattle.ms_run.specs.Peaks.{ArePeaksIfKept}
use Rattle.ms_run.specs.Replay.{AreSaid, IsOneRun, IsPhase, GoesOn, runs}
use Rattle.ms_run.specs.declared.alone.Metered.{Metered}
use Rattle.ms_run.proofs.OrderLemmas.{HasPart, AreWoven, ordered}
use Rattle.ms_run.proofs.machine.WholeLemmas.{one_run}
use Rattle.ms_shared.proofs.SeatGatherLemmas.{HasOwn}
use Rattle.ms_run.specs.Shares.{AreAt, position_for, said_in, IsReady, AllWorked, Position, AreApart, AreDealt, AreMerged}
use Rattle.ms_run.specs.Shares.{AreSteps, tasks_in}
use Rattle.std.specs.Prelude.{slice_index_or}
use Rattle.ms_run.proofs.sharing.StandByLemmas.{same_merged, all_at_positions}
use Rattle.ms_run.specs.Turn.{TurnState, position_in, position_of, worker_in, IsSameTurn}
use Rattle.ms_run.proofs.replays.StepReplayLemmas.{AsksStep, steps_replay}
use Rattle.ms_run.specs.declared.share.Task.{Task}
use Rattle.ms_run.specs.declared.share.Share.{Share}
use Rattle.ms_run.proofs.WorkedLemmas.{IsDoneIfPurge, at_position, loaders_at, purged_all, same_count}
use Rattle.ms_run.proofs.WorkedLemmas.{seat_at, share_at, still_apart, team_of, worked_from}

-- What a phase's parts say of it together.
pub phase_of : (worker : Option ℕ → ℕ) (share : ℕ → ℕ) (position : Position) (shared : LockState) (shares others : List Share) (lines : List Line)
    (added : List Answer) (said : List Said)
    (loaders : List (ℕ × LoaderView)) (old new : Machine)
    → AreDealt position shared shares lines loaders → AllWorked lines shares others
    → AreSaid lines added said → AreMerged position others lines said → IsGood old → IsGood new
    → old ≡ machine_of shared.first loaders → AreTogether shared.first loaders → IsMadeFrom shared.first others new
    → new.limits ≡ old.limits
    → AllByRecursion (λ (s : Said). position (loader_of s.0) ≡ share (worker (loader_of s.0))) said
    → IsPhase worker old lines added new
phase_of worker share position shared shares others lines added said loaders old new dealt all said_are merged
    was_good good machine together made limits placed = record {
      said = said;
      said_are = said_are;
      own = workers_replies_own worker old new ran.order said was_good ran.keeps ran.run;
      purges = purges;
      one_run = ran;
      good = good;
      limits = limits;
    }
  where
    there : (name : Option ℕ) → (done : Share) × (slice_get others (position name) ≡ Some done)
    there name = share_at others (position name) (omega (arith, same_count lines shares others all, dealt.within name))

    apart : AreApart position others
    apart = still_apart position shares others lines dealt.apart dealt.tasks all

    before : List (List (ℕ × LoaderView))
    before = map team_of shares

    after : List (List (ℕ × LoaderView))
    after = map team_of others

    many : length before ≡ length others
    many = length-map shares team_of ∙ sym (same_count lines shares others all)

    done_at : (at : ℕ) → at < length before → (done : Share) × (slice_get others at ≡ Some done)
    done_at at less = share_at others at (omega (arith, many))

    begins_at : (at : ℕ) → (done : Share) × (slice_get others at ≡ Some done)
        → AreAt position at loaders (slice_index_or before at [])
    begins_at at (done, found) =
        let from = worked_from lines shares others at done all found in
        subst (AreAt position at loaders) (sym (loaders_at shares at from.share from.is)) (record {
          here = λ name goes. dealt.here at from.share name from.is goes;
          apart = λ name differs. dealt.apart at from.share name from.is differs;
        })

    ends_at : (at : ℕ) → (done : Share) × (slice_get others at ≡ Some done)
        → AreAt position at made.ends.loaders (slice_index_or after at [])
    ends_at at (done, found) = subst (AreAt position at made.ends.loaders) (sym (loaders_at others at done found)) (record {
      here = λ name goes. made.here position apart at done name found goes;
      apart = λ name differs. apart at done name found differs;
    })

    parted : (at : ℕ) → (done : Share) × (slice_get others at ≡ Some done)
        → HasPart position said made.history.log (slice_index_or before at []) (slice_index_or after at []) at
    parted at (done, found) =
        let from = worked_from lines shares others at done all found in let acted = from.worked.acted in
        let fresh = (at_position (IsReady shared) shares at from.share dealt.ready from.is).fresh in
        let its = seat_at (HasOwn made.history.log) others at done
        (recursion_from_All (HasOwn made.history.log) (map seat_of others) made.history.own) found in
        subst (λ (l : List (ℕ × LoaderView)). HasPart position said made.history.log l (slice_index_or after at []) at)
        (sym (loaders_at shares at from.share from.is))
        (subst (λ (l : List (ℕ × LoaderView)). HasPart position said made.history.log from.share.loaders l at)
        (sym (loaders_at others at done found)) (record {
          acts = acted.acts;
          works = acted.works;
          said_are = acted.said_are
              ∙ ap (λ (l : List Task). said_in l done.replies.items) (sym from.worked.tasks) ∙ sym (merged at done found);
          events = sym (acted.events ∙ ap (λ (l : List Event). l ++ events_by acted.acts) fresh) ∙ its
              ∙ ap (λ (n : ℕ). events_of n made.history.log) (acted.number ∙ dealt.numbers at from.share from.is);
        }))

    woven : AreWoven position said shared.first made.last before after
    woven =
        ordered position said shared.first made.last before after made.history.log
        (length-map others team_of ∙ sym many) made.history.chain
        (subst (λ (n : ℕ). AreBelow n made.history.log) (length-map others seat_of ∙ sym many) made.history.numbered)
        (λ at less. parted at (done_at at less))

    ran : IsOneRun worker old said new
    ran =
        subst (λ (m : Machine). IsOneRun worker m said new) (sym machine)
        (subst (λ (m : Machine). IsOneRun worker (machine_of shared.first loaders) said m) (sym made.ends.machine)
        (one_run position shared.first made.last before after loaders made.ends.loaders said woven.order worker share
        together
        (λ name. omega (arith, many, same_count lines shares others all, dealt.within name))
        (λ at less. begins_at at (done_at at less)) (λ at less. ends_at at (done_at at less)) woven.runs woven.keeps
        (subst (λ (m : Machine). AreNamed m.loaders) made.ends.machine good.names) placed))

    purges : ArePurged said
    purges =
        let done = (there None).0 in
        let found = (there None).1 in
        let from = worked_from lines shares others (position None) done all found in
        let its =
        recursion_from_All IsDoneIfPurge (said_in (tasks_in lines from.share) done.replies.items) from.worked.purges in
        let whole = merged _ done found ∙ ap (λ (l : List Task). said_in l done.replies.items) from.worked.tasks in
        All-from_recursion IsDoneIfPurge said
        (purged_all (λ (s : Said). position (loader_of s.0) == position None)
        (λ s e. eq-eqb _ _ (ap (λ (step : Step). position (loader_of step)) e)) said
        (subst (AllByRecursion IsDoneIfPurge) (sym whole) its))

-- A phase comes after what there was before it.
goes_on : (worker : Option ℕ → ℕ) (lines : List Line) (added : List Answer) (course : Course) (new : Machine)
    → IsPhase worker course.state lines added new → GoesOn worker course lines added (on_to new course)
goes_on worker lines added course new its = record {
  replays = λ trace workers first phase before said turns so_far.
      runs phase worker before lines said added course new so_far turns its;
  good = its.good;
}

-- A run whose system goes through a phase, and whose peaks are raised at its end, goes on.
pub phase_added : (worker : Option ℕ → ℕ) (lines : List Line) (added : List Answer) (old new : Metered)
    → IsPhase worker old.system lines added new.system
    → ((states : List Machine) → ArePeaksIfKept states old.peaks → ArePeaksIfKept (new.system ∷ states) new.peaks)
    → GoesOnTo worker old lines added new
phase_added worker lines added old new is raised = λ course taken. (
  on_to new.system course,
  goes_on worker lines added course new.system
      (subst (λ (m : Machine). IsPhase worker m lines added new.system) taken.state is),
  record {
    state = refl;
    peaks = raised (passed course) taken.peaks;
  },
)

-- So does one by whose worker alone the lines are answered.
pub ended_alone : (worker : Option ℕ → ℕ) (lines : List Line) (old new : Metered) (added : List Answer)
    → IsGood old.system → IsGood new.system → AreSteps lines → GoesOnBy old lines added new
    → GoesOnTo worker old lines added new
ended_alone worker lines old new added was good steps goes = λ course taken.
    let told = goes course taken in (
      told.0,
      record {
        replays = λ trace workers first phase earlier said turns so_far.
            steps_replay trace workers first phase worker turns course told.0 earlier lines said added
            (recursion_from_All AsksStep lines steps) so_far (subst IsGood taken.state was) told.1;
        good = subst IsGood told.2.state good;
      },
      told.2,
    )

-- All of a worker's lines go to its share, once it is found which workers have lines.
same_worker : (old new : TurnState) → IsSameTurn old new → (name : Option ℕ)
    → position_in new name ≡ position_of new (worker_in old name)
same_worker old new same None = refl
same_worker old new same (Some name) = ap (position_of new)
    (ap (λ (l : List ℕ). (slice_index_or l name 0 + new.phase) % new.workers) same.first
    ∙ ap (λ (n : ℕ). (slice_index_or old.first name 0 + n) % new.workers) same.phase
    ∙ ap (λ (n : ℕ). (slice_index_or old.first name 0 + old.phase) % n) same.workers)

pub ended : (old_turn turn : TurnState) (shared : LockState) (shares others : List Share) (lines : List Line)
    (added : List Answer) (said : List Said) (loaders : List (ℕ × LoaderView)) (old new : Machine)
    → IsSameTurn old_turn turn
    → AreDealt (position_for (position_in turn) lines) shared shares lines loaders
    → AllWorked lines shares others
    → AreSaid lines added said → AreMerged (position_in turn) others lines said
    → IsGood old → IsGood new
    → old ≡ machine_of shared.first loaders → AreTogether shared.first loaders → IsMadeFrom shared.first others new
    → new.limits ≡ shared.first.limits → shared.first.limits ≡ old.limits
    → IsPhase (worker_in old_turn) old lines added new
ended old_turn turn shared shares others lines added said loaders old new same_turn dealt all said_are merged
    was_good good machine together made limits same =
    let position : Position = position_for (position_in turn) lines in
    phase_of (worker_in old_turn) (position_of turn) position shared shares others lines added said loaders old new
    dealt all said_are (same_merged (position_in turn) others lines added said said_are merged)
    was_good good machine together made
    (limits ∙ same)
    (all_at_positions (position_in turn) (λ name. position_of turn (worker_in old_turn name))
    (same_worker old_turn turn same_turn) lines added said said_are)

-- A replay phase by phase, and by one worker: each line that asks a step is a phase of its own; for
-- `replaying`.
use Rattle.std.proofs.Common.{◌≡◌, ◌≤◌, ◌<◌, ◌+◌, ℕ, Some, None, List, [], ◌∷◌}
use Rattle.std.proofs.Common.{◌++◌, length, take, drop, ◌-◌, get_or, slice_get, refl, sym, ap, ◌∙◌, subst}
use Rattle.std.proofs.Common.{arith, suc, ◌%◌}
use Rattle.ms_base.specs.declared.settings.Settings.{Settings}
use Rattle.std.proofs.Math.Nat.{mod-eq_of_lt}
use Rattle.std.proofs.Math.Seq.{take-add, take-length}
use Rattle.std.proofs.lemmas.List.{take_more, take_rest, length-drop, get_or-drop}
use Rattle.std.proofs.lemmas.List.Elements.{All-from_recursion, All-append}
use Rattle.std.proofs.lemmas.Option.{get_or_from_slice_get, none-some, slice_get_past, slice_get-get_or}
use Rattle.ms_base.specs.declared.step.Step.{Step}
use Rattle.ms_base.specs.State.{Machine, empty_machine, limits_of}
use Rattle.ms_base.specs.Good.{IsGood}
use Rattle.ms_trace.specs.declared.trace.Command.{Command}
use Rattle.ms_trace.specs.declared.trace.Command.TheVariants.{Step as Asks, Sync, Report}
use Rattle.ms_trace.specs.declared.trace.Line.{Line}
use Rattle.ms_trace.specs.Steps.{step_of}
use Rattle.ms_answers.specs.declared.replies.Answer.{Answer}
use Rattle.ms_run.specs.Counting.{GoesOnTo, HasTaken}
use Rattle.ms_run.specs.Gating.{AreGated, AreGatedByTurn, AreGatedFrom, GateCall}
use Rattle.ms_run.specs.Course.{Course, begun}
use Rattle.ms_run.specs.Metering.{used_words_of}
use Rattle.ms_run.specs.Replay.{Answers, IsEnd, IsReplay, Replays, starts}
use Rattle.ms_run.specs.Replay.{ends}
use Rattle.ms_run.specs.Shares.{AreSteps}
use Rattle.ms_run.specs.Turn.{TurnState, worker_in, worker_by, AreFirst, IsNextTurn, IsSameTurn}
use Rattle.ms_run.specs.Workers.{IsByTurn}
use Rattle.ms_run.specs.declared.alone.Metered.{Metered}
use Rattle.ms_run.proofs.GateLemmas.{GatedFirst, gated_more, gated_next, gated_start}
use Rattle.ms_run.proofs.TurnLemmas.{by_turn, next_worker}
use Rattle.ms_run.proofs.replays.EmptyMachineLemmas.{good_when_empty}
use Rattle.ms_run.proofs.replays.StepReplayLemmas.{answers_replay}

-- The first lines that ask steps.
pub steps_more : (lines : List Line) (at : ℕ) (line : Line) (step : Step) → at < length lines → AreSteps (take at lines)
    → (get_or lines at line).command ≡ Asks step
    → AreSteps (take (at + 1) lines)
steps_more lines at line step more first is =
    rw (take_more lines at line more)
    (All-append (λ (one : Line). (asked : Step) × (step_of one.command ≡ Some asked)) (take at lines)
    (get_or lines at line ∷ []) first
    (All-from_recursion (λ (one : Line). (asked : Step) × (step_of one.command ≡ Some asked))
    (get_or lines at line ∷ []) ((step, ap step_of is), tt)))

pub none_asked : (command : Command) → ((step : Step) → command ≡ Asks step → ⊥) → step_of command ≡ None
none_asked (Asks step) none = absurd (none step refl)
none_asked Sync none = refl
none_asked Report none = refl

pub stops_there : (lines : List Line) (at : ℕ) (line : Line)
    → ((step : Step) → (get_or lines at line).command ≡ Asks step → ⊥)
    → (next : Line) → slice_get lines at ≡ Some next → step_of next.command ≡ None
stops_there lines at line none next found =
    subst (λ (l : Line). step_of l.command ≡ None) (get_or_from_slice_get lines at next line found)
    (none_asked (get_or lines at line).command none)

pub stops_past : (lines : List Line) (at : ℕ) → length lines ≤ at → (next : Line) → slice_get lines at ≡ Some next
    → step_of next.command ≡ None
stops_past lines at past next found = absurd (none-some next (sym (slice_get_past lines at past) ∙ found))

-- The first lines are answered phase by phase, by the workers whose turn it is, and by a run that
-- has taken this course; its state is good, and the turn is the open phase's.
pub record PhasesFirst (told : GateCall → Type 0) (workers : ℕ) (first : Machine) (lines : List Line) (at : ℕ)
    (answers : List Answer) (run : Metered) (turn : TurnState) : Type 0 where
  pub within : at ≤ length lines
  pub phase : ℕ
  pub course : Course
  pub replays : Replays lines workers first phase (take at lines) answers course
  pub taken : HasTaken course run
  pub good : IsGood course.state
  pub numbered : AreFirst lines workers turn.first
  pub workers_are : turn.workers ≡ workers
  pub phase_is : turn.phase ≡ phase % workers
  pub gated : GatedFirst told workers lines (take at lines) phase

-- The workers whose turn it is in the open phase.
turns_in : (told : GateCall → Type 0) (workers : ℕ) (first : Machine) (lines : List Line) (at : ℕ)
    (answers : List Answer) (run : Metered) (turn : TurnState)
    → (so_far : PhasesFirst told workers first lines at answers run turn)
    → IsByTurn lines workers so_far.phase (worker_in turn)
turns_in told workers first lines at answers run turn so_far =
    subst (λ (n : ℕ). IsByTurn lines workers so_far.phase (worker_by turn.first turn.phase n)) (sym so_far.workers_are)
    (by_turn lines workers turn.first turn.phase so_far.phase so_far.numbered so_far.phase_is)

-- A system without loaders has no words in use.
pub used_none : (state : Machine) (settings : Settings) → state ≡ empty_machine (limits_of settings)
    → 0 ≡ used_words_of state
used_none state settings is = sym (ap used_words_of is)

pub phases_start : (told : GateCall → Type 0) (settings : Settings) (lines : List Line) (run : Metered) (turn : TurnState)
    → HasTaken (begun (empty_machine (limits_of settings))) run
    → AreFirst lines settings.workers turn.first → turn.workers ≡ settings.workers → turn.phase ≡ 0
    → 1 ≤ settings.workers
    → PhasesFirst told settings.workers (empty_machine (limits_of settings)) lines 0 [] run turn
phases_start told settings lines run turn taken numbered workers_are phase some = record {
  within = omega arith;
  phase = 0;
  course = begun (empty_machine (limits_of settings));
  replays = starts;
  taken = taken;
  good = good_when_empty (limits_of settings) (omega (arith, settings.class_nodes_few));
  numbered = numbered;
  workers_are = workers_are;
  phase_is = phase ∙ sym (mod-eq_of_lt some);
  gated = gated_start told settings.workers lines;
}

-- What is left of the lines, in which the steps that come first are a phase.
pub steps_there : (lines : List Line) (at count : ℕ) → AreSteps (take count (take (length lines - at) (drop at lines)))
    → AreSteps (take (at + count - at) (drop at lines))
steps_there lines at count steps =
    let same : at + count - at ≡ count = omega arith in
    rw same (rw (take_rest lines at) at steps)

pub stops_next : (lines : List Line) (at count : ℕ) (line : Line)
    → ((next : Line) → slice_get (take (length lines - at) (drop at lines)) count ≡ Some next
    → step_of next.command ≡ None) → at + count < length lines
    → step_of (get_or lines (at + count) line).command ≡ None
stops_next lines at count line stops more =
    let left = rw (take_rest lines at) at stops in
    let found = slice_get-get_or (drop at lines) count line (omega (arith, more, length-drop at lines)) in
    subst (λ (l : Line). step_of l.command ≡ None) (get_or-drop at lines count line)
    (left (get_or (drop at lines) count line) found)

-- Some lines more, which from each course that the run may have taken are answered.
pub phases_more : (told : GateCall → Type 0) (workers : ℕ) (first : Machine) (old new : Metered)
    (old_turn turn : TurnState) (lines : List Line) (at count : ℕ) (answers added : List Answer)
    → PhasesFirst told workers first lines at answers old old_turn
    → count ≤ length (take (length lines - at) (drop at lines))
    → GoesOnTo (worker_in old_turn) old (take (at + count - at) (drop at lines)) added new
    → IsSameTurn old_turn turn → AreSteps (take (at + count - at) (drop at lines))
    → AreGated told (worker_in old_turn) (take (at + count - at) (drop at lines))
    → PhasesFirst told workers first lines (at + count) (answers ++ added) new turn
phases_more told workers first old new old_turn turn lines at count answers added so_far within adds same_turn steps
    gated =
    let fits = rw (take_rest lines at, length-drop at lines) at within in
    let same : at + count - at ≡ count = omega arith in
    let more = adds so_far.course so_far.taken in
    let its = rw same at more.1 in
    record {
      within = omega (arith, fits, so_far.within);
      phase = so_far.phase;
      course = more.0;
      replays =
          rw (take-add at count lines)
          (its.replays lines workers first so_far.phase (take at lines) answers
          (turns_in told workers first lines at answers old old_turn so_far) so_far.replays);
      taken = more.2;
      good = its.good;
      numbered = subst (AreFirst lines workers) (sym same_turn.first) so_far.numbered;
      workers_are = same_turn.workers ∙ so_far.workers_are;
      phase_is = same_turn.phase ∙ so_far.phase_is;
      gated =
          rw (take-add at count lines)
          (gated_more told workers lines (take at lines) (take count (drop at lines)) so_far.phase (worker_in old_turn)
          so_far.gated (turns_in told workers first lines at answers old old_turn so_far)
          (subst (λ (n : ℕ). AreSteps (take n (drop at lines))) same steps)
          (subst (λ (n : ℕ). AreGated told (worker_in old_turn) (take n (drop at lines))) same gated));
    }

-- And the line that ends it, after which the turn goes on.
next_phase : (phase at workers count : ℕ) → at ≡ phase % workers → count ≡ workers
    → (at + 1) % count ≡ suc phase % workers
next_phase phase at workers count is are =
    ap (λ (n : ℕ). (at + 1) % n) are ∙ ap (λ (n : ℕ). (n + 1) % workers) is ∙ next_worker phase workers
    ∙ ap (λ (n : ℕ). n % workers) (let e : phase + 1 ≡ suc phase = omega arith in e)

pub phases_next : (told : GateCall → Type 0) (workers : ℕ) (first : Machine) (run : Metered)
    (old_turn turn : TurnState) (lines : List Line) (at : ℕ) (line : Line) (answers : List Answer) (added : Answer)
    → PhasesFirst told workers first lines at answers run old_turn
    → at < length lines
    → ((course : Course) → HasTaken course run → IsEnd course (get_or lines at line) added) → IsNextTurn old_turn turn
    → PhasesFirst told workers first lines (at + 1) (answers ++ added ∷ []) run turn
phases_next told workers first run old_turn turn lines at line answers added so_far more end next_turn =
    record {
      within = omega (arith, more);
      phase = suc so_far.phase;
      course = so_far.course;
      replays =
          rw (take_more lines at line more)
          (ends so_far.phase (take at lines) answers so_far.course (get_or lines at line) added so_far.replays
          (end so_far.course so_far.taken));
      taken = so_far.taken;
      good = so_far.good;
      numbered = subst (AreFirst lines workers) (sym next_turn.first) so_far.numbered;
      workers_are = next_turn.workers ∙ so_far.workers_are;
      phase_is = next_turn.phase ∙ next_phase so_far.phase old_turn.phase workers old_turn.workers so_far.phase_is
          so_far.workers_are;
      gated =
          rw (take_more lines at line more)
          (gated_next told workers lines (take at lines) (get_or lines at line) so_far.phase (worker_in old_turn)
          so_far.gated (turns_in told workers first lines at answers run old_turn so_far)
          (end so_far.course so_far.taken).no_step);
    }

-- So all are in the end.
pub phases_gated : (told : GateCall → Type 0) (settings : Settings) (lines : List Line) (at : ℕ)
    (answers : List Answer) (run : Metered) (turn : TurnState)
    → PhasesFirst told settings.workers (empty_machine (limits_of settings)) lines at answers run turn
    → length lines ≤ at → AreGatedByTurn told settings.workers lines
phases_gated told settings lines at answers run turn so_far past =
    let ends_there : at ≡ length lines = omega (arith, so_far.within, past) in
    subst (AreGatedFrom told lines settings.workers 0) (ap (λ (n : ℕ). take n lines) ends_there ∙ take-length lines)
    so_far.gated.gated

pub phases_end : (told : GateCall → Type 0) (settings : Settings) (lines : List Line) (at : ℕ) (answers : List Answer)
    (run : Metered) (turn : TurnState)
    → PhasesFirst told settings.workers (empty_machine (limits_of settings)) lines at answers run turn
    → length lines ≤ at → IsReplay (limits_of settings) settings.workers lines answers
phases_end told settings lines at answers run turn so_far past =
    let ends_there : at ≡ length lines = omega (arith, so_far.within, past) in
    record {
      phase = so_far.phase;
      last = so_far.course;
      replays = subst (λ (l : List Line). Replays lines settings.workers (empty_machine (limits_of settings))
          so_far.phase l answers so_far.course)
          (ap (λ (n : ℕ). take n lines) ends_there ∙ take-length lines) so_far.replays;
    }

-- A trace that one worker answers is replayed.
pub alone_replays : (settings : Settings) (lines lent : List Line) (answers : List Answer) → settings.workers ≡ 1
    → lent ≡ lines → (last : Course) × Answers (begun (empty_machine (limits_of settings))) lent answers last
    → IsReplay (limits_of settings) settings.workers lines answers
alone_replays settings lines lent answers one same told =
    let all = answers_replay lines (empty_machine (limits_of settings)) (begun (empty_machine (limits_of settings)))
    told.0 [] lines [] answers (0, starts)
    (good_when_empty (limits_of settings) (omega (arith, settings.class_nodes_few)))
    (subst (λ (l : List Line). Answers (begun (empty_machine (limits_of settings))) l answers told.0) same told.1) in
    subst (λ (n : ℕ). IsReplay (limits_of settings) n lines answers) (sym one) (record {
      phase = all.0;
      last = told.0;
      replays = all.1;
    })

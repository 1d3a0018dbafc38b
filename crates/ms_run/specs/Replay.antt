-- What a replay answers, whatever the number of workers and their order (this project's choice).
use Rattle.std.specs.List.{filter}
use Rattle.std.specs.List.Sorted.{IsPermutation}
use Rattle.std.specs.Option.{is_some}
use Rattle.std.specs.Prelude.{◌≡◌, ◌==◌, ℕ, suc, ⊤, Bool, true, false, List, [], ◌∷◌, ◌++◌, Option, Some, None}
use Rattle.std.specs.Prelude.{Box, IfSome, map}
use Rattle.std.specs.declared.alloc.Global.{Global}
use Rattle.ms_base.specs.declared.step.Step.{Step}
use Rattle.ms_base.specs.declared.step.Reply.{Reply}
use Rattle.ms_base.specs.declared.step.Reply.TheVariants.{Ok as Done}
use Rattle.ms_base.specs.State.{Limits, Machine, empty_machine}
use Rattle.ms_base.specs.Good.{IsGood}
use Rattle.ms_base.specs.Totals.{sums_of}
use Rattle.ms_base.specs.Transition.{Transition}
use Rattle.ms_base.specs.Run.{Run}
use Rattle.ms_trace.specs.declared.trace.Command.{Command}
use Rattle.ms_trace.specs.declared.trace.Command.TheVariants.{Step as Asks, Sync, Report}
use Rattle.ms_trace.specs.declared.trace.Line.{Line}
use Rattle.ms_trace.specs.Steps.{step_of}
use Rattle.ms_answers.specs.declared.verbosity.Verbosity.{Verbosity}
use Rattle.ms_answers.specs.declared.verbosity.Verbosity.TheVariants.{Basic, Full}
use Rattle.ms_answers.specs.declared.peaks.Peaks.{Peaks}
use Rattle.ms_answers.specs.declared.totals.Totals.{Totals}
use Rattle.ms_answers.specs.declared.replies.Answer.{Answer}
use Rattle.ms_answers.specs.Details.{details_in, details_of}
use Rattle.ms_answers.specs.Sums.{sums_in}
use Rattle.ms_base.specs.Request.{loader_of}
use Rattle.ms_run.specs.Course.{Course, begun, on_to, passed}
use Rattle.ms_run.specs.Peaks.{ArePeaksIfKept}
use Rattle.ms_base.specs.Run.Own.{Said, own_said, own_in, OwnRun, ArePurged}
use Rattle.ms_run.specs.Workers.{IsByTurn}
use Rattle.ms_run.specs.declared.fault.RunFault.{RunFault}
use Rattle.ms_run.specs.declared.fault.RunFault.TheVariants.{Unsettled}

-- A step is answered by a transition of the machine, to which the course goes on; where none is
-- asked, all is well and nothing changes.
abbrev pub Advances : Option Step → Course → Reply → Course → Type 0
Advances (Some asked) old reply new = Transition old.state asked reply new.state × (new.before ≡ passed old)
Advances None old reply new = (reply ≡ Done) × (new ≡ old)

-- Totals are those of the state that was reached, and so are their details where they have any.
-- Peaks, where they have any, are those of all states passed.
pub record AreOf (course : Course) (totals : Totals) : Type 0 where
  pub sums : sums_in totals ≡ sums_of course.state
  pub details : IfSome totals.details (λ details. details_in details ≡ details_of course.state)
  pub peaks : ArePeaksIfKept (passed course) totals.peaks

-- Where a report is asked for, the totals are those of the course; elsewhere there are none.
abbrev pub Reports : Command → Course → Option (Box Totals Global) → Type 0
Reports (Asks step) course report = report ≡ None
Reports Sync course report = report ≡ None
Reports Report course None = ⊥
Reports Report course (Some totals) = AreOf course totals.value

-- A report has details and peaks exactly where it shall be full.
abbrev pub is_full : Verbosity → Bool
is_full Basic = false
is_full Full = true

abbrev pub AreKept : Verbosity → Option Peaks → Type 0
AreKept verbosity peaks = is_some peaks ≡ is_full verbosity

pub record HasVerbosity (verbosity : Verbosity) (totals : Totals) : Type 0 where
  pub details : is_some totals.details ≡ is_full verbosity
  pub peaks : AreKept verbosity totals.peaks

abbrev pub IsDetailed : Verbosity → Answer → Type 0
IsDetailed verbosity answer = IfSome answer.report (λ totals. HasVerbosity verbosity totals.value)

-- The answers to the lines of a trace, of which one follows the other: the machine runs from old to
-- new, and each line has one.
abbrev pub Answers : Course → List Line → List Answer → Course → Type 0
Answers old [] answers new = (answers ≡ []) × (new ≡ old)
Answers old (line ∷ lines) [] new = ⊥
Answers old (line ∷ lines) (answer ∷ answers) new =
    (mid : Course)
    × (answer.line ≡ line.number)
    × Advances (step_of line.command) old answer.reply mid
    × Reports line.command mid answer.report
    × Answers mid lines answers new

-- The lines ask these steps, and are answered by these replies.
abbrev pub AreSaid : List Line → List Answer → List Said → Type 0
AreSaid [] [] [] = ⊤
AreSaid (line ∷ lines) (answer ∷ answers) (s ∷ said) =
    (step_of line.command ≡ Some s.0) × (answer.line ≡ line.number) × (answer.reply ≡ s.1) × (answer.report ≡ None)
    × AreSaid lines answers said
AreSaid _ _ _ = ⊥

-- Workers said it, each what its loaders or a purge were asked. All that was said has one order, in
-- which each worker's lines stand as they were said, and in that order it is one run of the
-- machine.
pub record IsOneRun (worker : Option ℕ → ℕ) (old : Machine) (said : List Said) (new : Machine) : Type 0 where
  pub order : List Said
  pub permutes : IsPermutation order said
  pub keeps : (one : ℕ) → filter (λ (s : Said). worker (loader_of s.0) == one) order
      ≡ filter (λ (s : Said). worker (loader_of s.0) == one) said
  pub run : Run old (map (λ (s : Said). s.0) order) (map (λ (s : Said). s.1) order) new

-- A phase from one good state to another with the same limits. The replies to each loader's lines
-- are its own: they follow from its lines and from which of them were refused for want, and leave
-- what the new state has of it. Each purge is done. All of it, in some order that keeps each
-- worker's lines, is one run of the machine.
pub record IsPhase (worker : Option ℕ → ℕ) (old : Machine) (lines : List Line) (answers : List Answer)
    (new : Machine) : Type 0 where
  pub said : List Said
  pub said_are : AreSaid lines answers said
  pub own : (name : ℕ) → OwnRun (own_in old.loaders name) (own_said name said) (own_in new.loaders name)
  pub purges : ArePurged said
  pub one_run : IsOneRun worker old said new
  pub good : IsGood new
  pub limits : new.limits ≡ old.limits

-- A line that asks no step ends a phase: it is answered Ok, and a report by the totals of the
-- course.
pub record IsEnd (course : Course) (line : Line) (answer : Answer) : Type 0 where
  pub no_step : step_of line.command ≡ None
  pub number : answer.line ≡ line.number
  pub done : answer.reply ≡ Done
  pub report : Reports line.command course answer.report

-- The first lines of a trace are answered phase by phase, each by the workers whose turn it is in
-- the phase of that number; the course goes on at the end of each phase. A line that asks no step
-- ends a phase, and the next one has the next number.
pub data Replays (trace : List Line) (workers : ℕ) (first : Machine) : ℕ → List Line → List Answer → Course → Type 0 where
  starts : Replays trace workers first 0 [] [] (begun first)
  runs : (phase : ℕ) (worker : Option ℕ → ℕ) (lines later : List Line) (answers others : List Answer)
      (old : Course) (new : Machine)
      → Replays trace workers first phase lines answers old → IsByTurn trace workers phase worker
      → IsPhase worker old.state later others new
      → Replays trace workers first phase (lines ++ later) (answers ++ others) (on_to new old)
  ends : (phase : ℕ) (lines : List Line) (answers : List Answer) (course : Course) (line : Line) (answer : Answer)
      → Replays trace workers first phase lines answers course → IsEnd course line answer
      → Replays trace workers first (suc phase) (lines ++ line ∷ []) (answers ++ answer ∷ []) course

-- From a course on that was taken, the lines are answered as a phase, or part by part of one, by
-- the workers that it has, up to a good state.
pub record GoesOn (worker : Option ℕ → ℕ) (old : Course) (lines : List Line) (answers : List Answer)
    (new : Course) : Type 0 where
  pub replays : (trace : List Line) (workers : ℕ) (first : Machine) (phase : ℕ) (before : List Line) (said : List Answer)
      → IsByTurn trace workers phase worker → Replays trace workers first phase before said old
      → Replays trace workers first phase (before ++ lines) (said ++ answers) new
  pub good : IsGood new.state

-- A whole trace is, by so many workers, from a machine on that has nothing.
pub record IsReplay (limits : Limits) (workers : ℕ) (lines : List Line) (answers : List Answer) : Type 0 where
  pub phase : ℕ
  pub last : Course
  pub replays : Replays lines workers (empty_machine limits) phase lines answers last

-- The fault of a run is want, of memory or of a thread.
abbrev pub IsWanting : RunFault → Type 0
IsWanting (Unsettled opened gathered) = ⊥
IsWanting _ = ⊤

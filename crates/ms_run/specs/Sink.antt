-- What a sink is given of a replay (this project's choice).
use Rattle.std.specs.Prelude.{◌≡◌, ℕ, Option, List, [], ◌∷◌, ◌++◌}
use Rattle.std.specs.List.{All}
use Rattle.ms_base.specs.State.{Limits, empty_machine, limits_of}
use Rattle.ms_base.specs.declared.settings.Settings.{Settings}
use Rattle.ms_base.specs.declared.step.Reply.{Reply}
use Rattle.ms_trace.specs.declared.trace.Line.{Line}
use Rattle.ms_answers.specs.declared.verbosity.Verbosity.{Verbosity}
use Rattle.ms_answers.specs.declared.replies.Answer.{Answer}
use Rattle.ms_run.specs.Counting.{GoesOnBy, GoesOnTo, HasTaken}
use Rattle.ms_run.specs.Course.{Course, begun}
use Rattle.ms_run.specs.Replay.{Answers, IsDetailed, IsEnd, IsReplay}
use Rattle.ms_run.specs.declared.alone.Metered.{Metered}

-- A sink takes these answers, after those that it took since it was first as it was.
abbrev pub PutsAll : {S : Type 0} → (S → S → List Answer → Type 0) → List Answer → S → S → Type 0
PutsAll took answers old new =
    (first : _) (said : List Answer) → took first old said → took first new (said ++ answers)

-- A sink takes answers of which this is true.
abbrev pub Puts : {S : Type 0} → (S → S → List Answer → Type 0) → (List Answer → Type 0) → S → S → Type 0
Puts took are old new = (added : List Answer) × PutsAll took added old new × are added

-- Answers are those to some lines by one worker, as a run goes on.
abbrev pub AreOfLines : Verbosity → Metered → List Line → Metered → List Answer → Type 0
AreOfLines verbosity old lines new answers = All (IsDetailed verbosity) answers × GoesOnBy old lines answers new

-- There is one answer, to a line that one worker answers with this reply, as a run goes on.
abbrev pub IsOfLine : Verbosity → Metered → Line → Reply → Metered → List Answer → Type 0
IsOfLine verbosity old line reply new answers =
    (answer : Answer) × answers ≡ answer ∷ [] × IsDetailed verbosity answer
    × ((course : Course) → HasTaken course old
    → (answer.reply ≡ reply) × (later : Course) × Answers course (line ∷ []) (answer ∷ []) later × HasTaken later new)

-- They are those to all lines of one run, from the machine on that has nothing.
abbrev pub AreOfRun : Limits → Verbosity → List Line → List Answer → Type 0
AreOfRun limits verbosity lines answers =
    (last : Course) × Answers (begun (empty_machine limits)) lines answers last × All (IsDetailed verbosity) answers

-- They are those to a phase, or to a part of one, by the workers that it has, as a run goes on.
abbrev pub AreOfPhase : Verbosity → (Option ℕ → ℕ) → Metered → List Line → Metered → List Answer → Type 0
AreOfPhase verbosity worker old lines new answers = All (IsDetailed verbosity) answers × GoesOnTo worker old lines answers new

-- There is one answer, to a line that asks no step.
abbrev pub IsOfEnd : Verbosity → Metered → Line → List Answer → Type 0
IsOfEnd verbosity run line answers =
    (answer : Answer) × answers ≡ answer ∷ [] × IsDetailed verbosity answer
    × ((course : Course) → HasTaken course run → IsEnd course line answer)

-- They are those to all lines, phase by phase.
abbrev pub AreOfPhases : Settings → Verbosity → List Line → List Answer → Type 0
AreOfPhases settings verbosity lines answers =
    IsReplay (limits_of settings) settings.workers lines answers × All (IsDetailed verbosity) answers

-- Answers are those to a trace: answered phase by phase by so many workers, with one of them as one
-- run of the machine in the order of the lines, and reports have the details that are asked for.
pub record AreToTrace (settings : Settings) (verbosity : Verbosity) (lines : List Line) (answers : List Answer)
    : Type 0 where
  pub own : IsReplay (limits_of settings) settings.workers lines answers
  pub run : settings.workers ≡ 1
      → (last : Course) × Answers (begun (empty_machine (limits_of settings))) lines answers last
  pub detailed : All (IsDetailed verbosity) answers

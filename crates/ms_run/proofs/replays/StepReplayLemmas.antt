-- Lines that one worker answers: each that asks a step is a phase's, and its own.
use Rattle.std.proofs.Common.{◌≡◌, ◌≢◌, ℕ, Bool, true, false, cond, Option, Some, None, List, [], ◌∷◌}
use Rattle.std.proofs.Common.{◌++◌, refl, sym, ap, ◌∙◌, subst, append_assoc}
use Rattle.std.proofs.Common.{arith, Box, Global, suc}
use Rattle.std.specs.Prelude.{◌==◌}
use Rattle.std.specs.List.{AllByRecursion}
use Rattle.std.proofs.lemmas.Bool.{both_ways, eq-eqb, eqb-true}
use Rattle.ms_base.specs.declared.step.Step.TheVariants.{Purge}
use Rattle.std.proofs.lemmas.List.{append-nil}
use Rattle.std.proofs.lemmas.List.Sorted.{IsPermutation-refl}
use Rattle.std.proofs.lemmas.List.Elements.{All-from_recursion}
use Rattle.std.proofs.lemmas.Option.{none-some, same_Some}
use Rattle.ms_base.specs.declared.step.Step.{Step}
use Rattle.ms_base.specs.declared.step.Reply.{Reply}
use Rattle.ms_base.specs.declared.step.Reply.TheVariants.{Ok as Done}
use Rattle.ms_base.specs.Request.{loader_of, is_name}
use Rattle.ms_base.specs.State.{Machine}
use Rattle.ms_base.specs.Good.{IsGood}
use Rattle.ms_base.specs.Transition.{Transition}
use Rattle.ms_base.specs.Run.Alone.{OwnLoader}
use Rattle.ms_trace.specs.declared.trace.Command.{Command}
use Rattle.ms_trace.specs.declared.trace.Command.TheVariants.{Step as Asks, Sync, Report}
use Rattle.ms_trace.specs.declared.trace.Line.{Line}
use Rattle.ms_trace.specs.Steps.{step_of}
use Rattle.ms_answers.specs.declared.totals.Totals.{Totals}
use Rattle.ms_answers.specs.declared.replies.Answer.{Answer}
use Rattle.ms_base.specs.Run.Own.{Said, own_said, own_in, OwnRun}
use Rattle.ms_run.specs.Course.{Course, on_to, passed}
use Rattle.ms_run.specs.Replay.{Advances, Reports, Answers, IsPhase, Replays}
use Rattle.ms_run.specs.Replay.{runs, ends}
use Rattle.ms_run.specs.Workers.{IsByTurn}
use Rattle.ms_base.proofs.own.OwnRefusedLemmas.{IsOwn}
use Rattle.ms_base.proofs.own.OwnStepLemmas.{transition_own, transition_others, transition_limits, transition_good}
use Rattle.ms_base.proofs.own.OwnStepLemmas.{purge_done}

-- Where a step is asked there is no report.
none_reported : (command : Command) (asked : Step) (course : Course) (report : Option (Box Totals Global))
    → step_of command ≡ Some asked → Reports command course report → report ≡ None
none_reported (Asks step) asked course report asks told = told
none_reported Sync asked course report asks told = told
none_reported Report asked course report asks told = absurd (cc)

otherwise : (o : Option ℕ) (other name : ℕ) → o ≡ Some other → (other == name) ≡ false → o ≡ Some name → ⊥
otherwise o other name e differ f =
    both_ways (other == name) differ (eq-eqb other name (same_Some other name (sym e ∙ f)))

-- What one request says of a loader, whether it names it or not.
own_of_one : (step : Step) (reply : Reply) (before after : Option OwnLoader) (name : ℕ)
    → (loader_of step ≡ Some name → IsOwn before step reply after)
    → (loader_of step ≢ Some name → after ≡ before) → OwnRun before (own_said name ((step, reply) ∷ [])) after
own_of_one step reply before after name own others =
    elim (loader_of step) as (λ o. loader_of step ≡ o
    → OwnRun before (cond (is_name name o) ((step, reply) ∷ []) []) after) [
      | None ↦ λ is. ([], others (λ names. none-some name (sym is ∙ names)))
      | Some other ↦ λ is. named_or_not other is (other == name) refl
    ] refl
  where
    named_or_not : (other : ℕ) → loader_of step ≡ Some other → (b : Bool) → (other == name) ≡ b
        → OwnRun before (cond b ((step, reply) ∷ []) []) after
    named_or_not other is true same =
        let its = own (is ∙ ap (λ (n : ℕ). Some n) (eqb-true other name same)) in
        (its.0 ∷ [], (after, its.1, refl))
    named_or_not other is false differ = ([], others (otherwise (loader_of step) other name is differ))

-- A line that asks a step is a part of a phase, whose worker it may be.
pub phase_of_step : (worker : Option ℕ → ℕ) (old new : Machine) (course : Course) (line : Line) (answer : Answer)
    (step : Step) → step_of line.command ≡ Some step → answer.line ≡ line.number
    → Transition old step answer.reply new → Reports line.command course answer.report → IsGood old
    → IsPhase worker old (line ∷ []) (answer ∷ []) new
phase_of_step worker old new course line answer step asks number told report good = record {
  said = (step, answer.reply) ∷ [];
  said_are = (asks, number, refl, none_reported line.command step course answer.report asks report, tt);
  own = λ name. own_of_one step answer.reply (own_in old.loaders name) (own_in new.loaders name) name
      (transition_own old new step answer.reply good told name) (transition_others old new step answer.reply told name);
  purges = All-from_recursion (λ (s : Said). s.0 ≡ Purge → s.1 ≡ Done) ((step, answer.reply) ∷ [])
      (purge_done old new step answer.reply told, tt);
  one_run = record {
    order = (step, answer.reply) ∷ [];
    permutes = IsPermutation-refl ((step, answer.reply) ∷ []);
    keeps = λ one. refl;
    run = (new, told, refl);
  };
  good = transition_good old new step answer.reply told good;
  limits = transition_limits old new step answer.reply told;
}

-- The course that goes on to the state that a course is in.
course_is : (old new : Course) → new.before ≡ passed old → on_to new.state old ≡ new
course_is old new is = ap (course_in new.state) (sym is)
  where
    course_in : Machine → List Machine → Course
    course_in m before = record { state = m; before = before }

abbrev pub AsksStep : Line → Type 0
AsksStep line = (asked : Step) × (step_of line.command ≡ Some asked)

module _ (trace : List Line) (workers : ℕ) (first : Machine) where
  -- One line, and then the others.
  one_more : (phase : ℕ) (new : Course) (before : List Line) (line : Line) (lines : List Line)
      (said : List Answer) (answer : Answer) (answers : List Answer)
      → Replays trace workers first phase ((before ++ line ∷ []) ++ lines) ((said ++ answer ∷ []) ++ answers) new
      → Replays trace workers first phase (before ++ line ∷ lines) (said ++ answer ∷ answers) new
  one_more phase new before line lines said answer answers all =
      subst (λ (l : List Line). Replays trace workers first phase l (said ++ answer ∷ answers) new)
      (append_assoc before (line ∷ []) lines)
      (subst (λ (a : List Answer). Replays trace workers first phase ((before ++ line ∷ []) ++ lines) a new)
      (append_assoc said (answer ∷ []) answers) all)

  no_more : (phase : ℕ) (old new : Course) (before : List Line) (said answers : List Answer)
      → Replays trace workers first phase before said old → (answers ≡ []) × (new ≡ old)
      → Replays trace workers first phase (before ++ []) (said ++ answers) new
  no_more phase old new before said answers so_far told =
      subst (λ (course : Course). Replays trace workers first phase (before ++ []) (said ++ answers) course) (sym told.1)
      (rw (told.0, append-nil before, append-nil said) so_far)

  -- A line's answer, where it asks a step, and where it asks none.
  step_replays : (phase : ℕ) (worker : Option ℕ → ℕ) → IsByTurn trace workers phase worker → (old mid : Course)
      (before : List Line) (line : Line) (said : List Answer) (answer : Answer)
      → Replays trace workers first phase before said old → IsGood old.state
      → (step : Step) → step_of line.command ≡ Some step → answer.line ≡ line.number
      → Advances (Some step) old answer.reply mid → Reports line.command mid answer.report
      → Replays trace workers first phase (before ++ line ∷ []) (said ++ answer ∷ []) mid × IsGood mid.state
  step_replays phase worker turns old mid before line said answer so_far good step asks number told report = (
    subst (λ (course : Course). Replays trace workers first phase (before ++ line ∷ []) (said ++ answer ∷ []) course)
        (course_is old mid told.1)
        (runs phase worker before (line ∷ []) said (answer ∷ []) old mid.state so_far turns
        (phase_of_step worker old.state mid.state mid line answer step asks number told.0 report good)),
    transition_good old.state mid.state step answer.reply told.0 good,
  )

  end_replays : (phase : ℕ) (old mid : Course) (before : List Line) (line : Line) (said : List Answer)
      (answer : Answer) → Replays trace workers first phase before said old → IsGood old.state
      → step_of line.command ≡ None → answer.line ≡ line.number
      → Advances None old answer.reply mid → Reports line.command mid answer.report
      → Replays trace workers first (suc phase) (before ++ line ∷ []) (said ++ answer ∷ []) mid × IsGood mid.state
  end_replays phase old mid before line said answer so_far good asks number told report = (
    subst (λ (course : Course). Replays trace workers first (suc phase) (before ++ line ∷ []) (said ++ answer ∷ []) course)
        (sym told.1)
        (ends phase before said old line answer so_far
        (record {
          no_step = asks;
          number = number;
          done = told.0;
          report = subst (λ (course : Course). Reports line.command course answer.report) told.1 report;
        })),
    subst (λ (course : Course). IsGood course.state) (sym told.1) good,
  )

  -- Lines of a phase that one worker answers are answered in that phase.
  pub steps_replay : (phase : ℕ) (worker : Option ℕ → ℕ) → IsByTurn trace workers phase worker → (old new : Course)
      (before lines : List Line) (said answers : List Answer) → AllByRecursion AsksStep lines
      → Replays trace workers first phase before said old → IsGood old.state
      → Answers old lines answers new → Replays trace workers first phase (before ++ lines) (said ++ answers) new
  steps_replay phase worker turns old new before [] said answers steps so_far good told =
      no_more phase old new before said answers so_far told
  steps_replay phase worker turns old new before (line ∷ lines) said [] steps so_far good told = absurd told
  steps_replay phase worker turns old new before (line ∷ lines) said (answer ∷ answers) steps so_far good told =
      let next =
      step_replays phase worker turns old told.0 before line said answer so_far good steps.0.0 steps.0.1 told.1
      (subst (λ (asks : Option Step). Advances asks old answer.reply told.0) steps.0.1 told.2) told.3 in
      one_more phase new before line lines said answer answers
      (steps_replay phase worker turns told.0 new (before ++ line ∷ []) lines (said ++ answer ∷ []) answers steps.1
      next.0 next.1 told.4)

-- All lines of a trace that one worker answers are answered phase by phase: each is worker 0's.
alone_by_turn : (trace : List Line) (phase : ℕ) → IsByTurn trace 1 phase (λ name. 0)
alone_by_turn trace phase = record { purge = refl; loaders = λ number name found. omega arith }

-- So many phases, the last one open.
abbrev AnswersTo : List Line → Machine → List Line → List Answer → Course → Type 0
AnswersTo trace first lines answers course = (phase : ℕ) × Replays trace 1 first phase lines answers course

line_replays : (trace : List Line) (first : Machine) (old mid : Course) (before : List Line) (line : Line)
    (said : List Answer) (answer : Answer) → AnswersTo trace first before said old → IsGood old.state
    → (asks : Option Step) → step_of line.command ≡ asks → answer.line ≡ line.number
    → Advances asks old answer.reply mid → Reports line.command mid answer.report
    → AnswersTo trace first (before ++ line ∷ []) (said ++ answer ∷ []) mid × IsGood mid.state
line_replays trace first old mid before line said answer (phase, so_far) good (Some step) asks number told report =
    let next = step_replays trace 1 first phase (λ name. 0) (alone_by_turn trace phase) old mid before line said answer
    so_far good step asks number told report in ((phase, next.0), next.1)
line_replays trace first old mid before line said answer (phase, so_far) good None asks number told report =
    let next = end_replays trace 1 first phase old mid before line said answer so_far good asks number told report in
    ((suc phase, next.0), next.1)

pub answers_replay : (trace : List Line) (first : Machine) (old new : Course) (before lines : List Line)
    (said answers : List Answer) → AnswersTo trace first before said old → IsGood old.state
    → Answers old lines answers new → AnswersTo trace first (before ++ lines) (said ++ answers) new
answers_replay trace first old new before [] said answers so_far good told =
    (so_far.0, no_more trace 1 first so_far.0 old new before said answers so_far.1 told)
answers_replay trace first old new before (line ∷ lines) said [] so_far good told = absurd told
answers_replay trace first old new before (line ∷ lines) said (answer ∷ answers) so_far good told =
    let next =
    line_replays trace first old told.0 before line said answer so_far good (step_of line.command) refl told.1 told.2
    told.3 in
    let all = answers_replay trace first told.0 new (before ++ line ∷ []) lines (said ++ answer ∷ []) answers next.0
    next.1 told.4 in
    (all.0, one_more trace 1 first all.0 new before line lines said answer answers all.1)

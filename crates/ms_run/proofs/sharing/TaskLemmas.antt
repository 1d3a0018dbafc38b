-- The tasks of lines at a position, and what is said of them. For `merge`.
use Rattle.std.proofs.Common.{◌≡◌, ◌<◌, ◌+◌, ◌==◌, ℕ, Bool, cond, Some, None, Option, List, [], ◌∷◌, ◌++◌, map, length}
use Rattle.std.proofs.Common.{refl, sym, ap, ◌∙◌, arith, get_or, take, drop, append_assoc, eq-eqb}
use Rattle.std.specs.List.{filter}
use Rattle.std.proofs.lemmas.List.{take_more, take-append-drop, length-map, get_or-map}
use Rattle.std.proofs.lemmas.List.Elements.{filter-append}
use Rattle.std.proofs.lemmas.Slice.Zip.{length-zip, get_or-zip}
use Rattle.ms_base.specs.declared.step.Step.{Step}
use Rattle.ms_base.specs.declared.step.Reply.{Reply}
use Rattle.ms_base.specs.Request.{loader_of}
use Rattle.ms_trace.specs.declared.trace.Line.{Line}
use Rattle.ms_trace.specs.Steps.{step_of}
use Rattle.ms_answers.specs.declared.replies.Answer.{Answer}
use Rattle.ms_base.specs.Run.Own.{Said}
use Rattle.ms_run.specs.Replay.{AreSaid}
use Rattle.ms_run.specs.declared.share.Task.{Task}
use Rattle.ms_run.specs.Shares.{said_in, Position, task_of, tasks_of, tasks_at}

-- What is said of lines, and of others after them.
pub said_append : (lines more : List Line) (answers others : List Answer) (said told : List Said)
    → AreSaid lines answers said → AreSaid more others told
    → AreSaid (lines ++ more) (answers ++ others) (said ++ told)
said_append [] more [] others [] told first second = second
said_append [] more [] others (s ∷ said) told first second = absurd first
said_append [] more (answer ∷ answers) others said told first second = absurd first
said_append (line ∷ lines) more [] others said told first second = absurd first
said_append (line ∷ lines) more (answer ∷ answers) others [] told first second = absurd first
said_append (line ∷ lines) more (answer ∷ answers) others (s ∷ said) told first second =
    (first.0, first.1, first.2, first.3, said_append lines more answers others said told first.4 second)

-- The tasks of lines, and of others after them.
tasks_append : (lines more : List Line) → tasks_of (lines ++ more) ≡ tasks_of lines ++ tasks_of more
tasks_append [] more = refl
tasks_append (line ∷ lines) more =
    elim (step_of line.command) as (λ o. task_of line o (tasks_of (lines ++ more))
    ≡ task_of line o (tasks_of lines) ++ tasks_of more) [
      | None ↦ tasks_append lines more
      | Some step ↦ ap (λ (l : List Task). record { line = line.number; step = step } ∷ l) (tasks_append lines more)
    ]

pub at_append : (position : Position) (k : ℕ) (lines more : List Line)
    → tasks_at position k (lines ++ more) ≡ tasks_at position k lines ++ tasks_at position k more
at_append position k lines more =
    ap (filter (λ (task : Task). position (loader_of task.step) == k)) (tasks_append lines more)
    ∙ filter-append (λ (task : Task). position (loader_of task.step) == k) (tasks_of lines) (tasks_of more)

abbrev pub task_in : Line → Step → Task
task_in line step = record { line = line.number; step = step }

at_one : (position : Position) (k : ℕ) (line : Line) (step : Step) → step_of line.command ≡ Some step
    → tasks_at position k (line ∷ []) ≡ cond (position (loader_of step) == k) (task_in line step ∷ []) []
at_one position k line step asks =
    ap (λ (o : Option Step). filter (λ (task : Task). position (loader_of task.step) == k) (task_of line o [])) asks

-- The lines up to the next position have one task more, in one share.
pub at_next : (position : Position) (k : ℕ) (lines : List Line) (at : ℕ) (line : Line) (step : Step)
    → take (at + 1) lines ≡ take at lines ++ line ∷ []
    → step_of line.command ≡ Some step
    → tasks_at position k (take (at + 1) lines) ≡ tasks_at position k (take at lines) ++ cond (position (loader_of step) == k)
    (task_in line step ∷ []) []
at_next position k lines at line step more asks =
    ap (tasks_at position k) more ∙ at_append position k (take at lines) (line ∷ [])
    ∙ ap (λ (l : List Task). tasks_at position k (take at lines) ++ l) (at_one position k line step asks)

-- That task, where it goes.
at_there : (position : Position) (lines : List Line) (at : ℕ) (line : Line) (step : Step)
    → take (at + 1) lines ≡ take at lines ++ line ∷ []
    → step_of line.command ≡ Some step
    → tasks_at position (position (loader_of step)) (take (at + 1) lines)
    ≡ tasks_at position (position (loader_of step)) (take at lines) ++ task_in line step ∷ []
at_there position lines at line step more asks =
    at_next position (position (loader_of step)) lines at line step more asks
    ∙ ap (λ (b : Bool). tasks_at position (position (loader_of step)) (take at lines) ++ cond b (task_in line step ∷ []) [])
    (eq-eqb (position (loader_of step)) (position (loader_of step)) refl)

pub all_there : (position : Position) (lines : List Line) (at : ℕ) (line : Line) (step : Step)
    → take (at + 1) lines ≡ take at lines ++ line ∷ []
    → step_of line.command ≡ Some step
    → tasks_at position (position (loader_of step)) lines
    ≡ tasks_at position (position (loader_of step)) (take at lines) ++ task_in line step ∷ tasks_at position
    (position (loader_of step)) (drop (at + 1) lines)
all_there position lines at line step more asks =
    let p = position (loader_of step) in
    ap (tasks_at position p) (sym (take-append-drop (at + 1) lines))
    ∙ at_append position p (take (at + 1) lines) (drop (at + 1) lines)
    ∙ ap (λ (l : List Task). l ++ tasks_at position p (drop (at + 1) lines)) (at_there position lines at line step more asks)
    ∙ append_assoc (tasks_at position p (take at lines)) (task_in line step ∷ []) (tasks_at position p (drop (at + 1) lines))

-- One more of what is said in a share.
pub said_more : (tasks : List Task) (replies : List Reply) (n : ℕ) (task : Task) (reply : Reply) → n < length tasks
    → n < length replies
    → get_or tasks n task ≡ task → reply ≡ get_or replies n reply
    → take (n + 1) (said_in tasks replies) ≡ take n (said_in tasks replies) ++ (task.step, reply) ∷ []
said_more tasks replies n task reply in_tasks in_replies task_is reply_is =
    take_more (said_in tasks replies) n (task.step, reply) within
    ∙ ap (λ (s : Said). take n (said_in tasks replies) ++ s ∷ []) is
  where
    steps : List Step
    steps = map (λ (t : Task). t.step) tasks

    in_steps : n < length steps
    in_steps = omega (arith, in_tasks, length-map tasks (λ (t : Task). t.step))

    within : n < length (said_in tasks replies)
    within = omega (arith, length-zip steps replies, in_steps, in_replies)

    step_is : get_or steps n task.step ≡ task.step
    step_is = get_or-map (λ (t : Task). t.step) tasks n task task.step in_tasks ∙ ap (λ (t : Task). t.step) task_is

    is : get_or (said_in tasks replies) n (task.step, reply) ≡ (task.step, reply)
    is = get_or-zip steps replies n (task.step, reply) in_steps in_replies
        ∙ ap (λ (s : Step). (s, get_or replies n reply)) step_is ∙ ap (λ (r : Reply). (task.step, r)) (sym reply_is)

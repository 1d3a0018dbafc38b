-- What a gate is told, line by line: of one worker's lines, of the lines of a phase dealt to shares,
-- and phase by phase. For `alone`, `working`, `phase` and `replaying`.
use Rattle.std.proofs.Common.{◌≡◌, ◌<◌, ◌+◌, ◌-◌, ◌==◌, ℕ, suc, Bool, true, false, cond, Some, None}
use Rattle.std.proofs.Common.{Option, List, [], ◌∷◌, ◌++◌, length, take, get_or, min, refl, sym, ap, ◌∙◌}
use Rattle.std.proofs.Common.{subst, arith}
use Rattle.std.specs.Prelude.{slice_index_or}
use Rattle.std.specs.List.{All, AllByRecursion, filter}
use Rattle.std.proofs.Math.Nat.{min-zero}
use Rattle.std.proofs.Math.Seq.{take-length}
use Rattle.std.proofs.lemmas.Bool.{eq-eqb}
use Rattle.std.proofs.lemmas.List.{take_more}
use Rattle.std.proofs.lemmas.List.Elements.{All-from_recursion, All-nil, All-push, recursion_from_All}
use Rattle.std.proofs.lemmas.Nat.{mod_below}
use Rattle.ms_base.specs.declared.step.Step.{Step}
use Rattle.ms_base.specs.Request.{loader_of}
use Rattle.ms_loader.specs.Loader.{LoaderView}
use Rattle.ms_shared.specs.SeatView.{LockState}
use Rattle.ms_trace.specs.declared.trace.Command.TheVariants.{Step as Asks}
use Rattle.ms_trace.specs.declared.trace.Line.{Line}
use Rattle.ms_trace.specs.Steps.{step_of}
use Rattle.ms_run.specs.Gating.{GateCall, Before, After, IsGated, IsGatedBy, AreGated, AreTasksGated, AreGatedFrom}
use Rattle.ms_run.specs.Gating.{AreGatedByTurn, phase_after}
use Rattle.ms_run.specs.Shares.{AreDealt, AreSteps, AreWorkedByTurn, Position, task_of, tasks_at}
use Rattle.ms_run.specs.Shares.{tasks_in, tasks_of}
use Rattle.ms_run.specs.Turn.{HasOwnShare, HaveOwnShares, IsSameTurn, TurnState, position_in, shares_in, worker_by, worker_in}
use Rattle.ms_run.specs.Workers.{IsByTurn}
use Rattle.ms_run.specs.declared.share.Share.{Share}
use Rattle.ms_run.specs.declared.share.Task.{Task}
use Rattle.ms_run.proofs.WorkedLemmas.{at_position, share_at}

-- A line that asks no step is no call's; one that does is between the gate's two calls.
pub between_gated : (told : GateCall → Type 0) (worker : Option ℕ → ℕ) (line : Line) (step : Option Step)
    → step ≡ None → IsGatedBy told worker line step
between_gated told worker line step none = subst (IsGatedBy told worker line) (sym none) tt

pub step_gated : (told : GateCall → Type 0) (worker : ℕ) (line : Line) (step : Step) (number used : ℕ)
    → line.command ≡ Asks step → number ≡ line.number → told (Before worker number) → told (After worker number used)
    → IsGatedBy told (λ name. worker) line (step_of line.command)
step_gated told worker line step number used asks is before after =
    subst (λ (asked : Option Step). IsGatedBy told (λ name. worker) line asked) (sym (ap step_of asks))
    (subst (λ (n : ℕ). IsGated told worker n) is (record {
      before = before;
      used = used;
      after = after;
    }))

-- No line, one more, and all.
pub none_gated : (told : GateCall → Type 0) (worker : Option ℕ → ℕ) → AreGated told worker []
none_gated told worker = All-nil (λ (line : Line). IsGatedBy told worker line (step_of line.command))

pub more_gated : (told : GateCall → Type 0) (worker : Option ℕ → ℕ) (lines : List Line) (at : ℕ) (line d : Line)
    → AreGated told worker (take at lines) → at < length lines → line ≡ get_or lines at d
    → IsGatedBy told worker line (step_of line.command) → AreGated told worker (take (at + 1) lines)
more_gated told worker lines at line d so_far more is one =
    rw (take_more lines at d more)
    (All-push (λ (l : Line). IsGatedBy told worker l (step_of l.command)) (take at lines) (get_or lines at d) so_far
    (subst (λ (l : Line). IsGatedBy told worker l (step_of l.command)) is one))

pub all_gated : (told : GateCall → Type 0) (worker : Option ℕ → ℕ) (lines : List Line) (at : ℕ)
    → AreGated told worker (take at lines) → at ≡ length lines → AreGated told worker lines
all_gated told worker lines at so_far ends =
    subst (AreGated told worker) (ap (λ (n : ℕ). take n lines) ends ∙ take-length lines) so_far

-- The same of a worker's tasks.
pub no_task_gated : (told : GateCall → Type 0) (worker : ℕ) → AreTasksGated told worker []
no_task_gated told worker = All-nil (λ (task : Task). IsGated told worker task.line)

pub more_tasks_gated : (told : GateCall → Type 0) (worker : ℕ) (tasks : List Task) (at : ℕ) (task : Task)
    → AreTasksGated told worker (take at tasks) → at < length tasks → get_or tasks at task ≡ task
    → IsGated told worker task.line → AreTasksGated told worker (take (at + 1) tasks)
more_tasks_gated told worker tasks at task so_far more is one =
    rw (take_more tasks at task more)
    (All-push (λ (t : Task). IsGated told worker t.line) (take at tasks) (get_or tasks at task) so_far
    (subst (λ (t : Task). IsGated told worker t.line) (sym is) one))

pub all_tasks_gated : (told : GateCall → Type 0) (worker : ℕ) (tasks : List Task) (at : ℕ)
    → AreTasksGated told worker (take at tasks) → at ≡ length tasks → AreTasksGated told worker tasks
all_tasks_gated told worker tasks at so_far ends =
    subst (AreTasksGated told worker) (ap (λ (n : ℕ). take n tasks) ends ∙ take-length tasks) so_far

-- The lines of a phase are gated where the tasks are that they make for each share.
module _ (told : GateCall → Type 0) (worker : Option ℕ → ℕ) (position : Position) where
  abbrev AreOwn : List Task → Type 0
  AreOwn tasks = AllByRecursion (λ (task : Task). IsGated told (worker (loader_of task.step)) task.line) tasks

  abbrev goes_to : ℕ → Task → Bool
  goes_to at task = position (loader_of task.step) == at

  here : (at : ℕ) (task : Task) (tasks : List Task) → goes_to at task ≡ true → AreOwn (filter (goes_to at) (task ∷ tasks))
      → IsGated told (worker (loader_of task.step)) task.line
  here at task tasks is are = (subst (λ (b : Bool). AreOwn (cond b (task ∷ filter (goes_to at) tasks) (filter (goes_to at) tasks))) is are).0

  rest : (at : ℕ) (task : Task) (tasks : List Task) (goes : Bool)
      → AreOwn (cond goes (task ∷ filter (goes_to at) tasks) (filter (goes_to at) tasks))
      → AreOwn (filter (goes_to at) tasks)
  rest at task tasks true are = are.1
  rest at task tasks false are = are

  others : (line : Line) (lines : List Line) (at : ℕ) (step : Option Step)
      → AreOwn (filter (goes_to at) (task_of line step (tasks_of lines))) → AreOwn (tasks_at position at lines)
  others line lines at None are = are
  others line lines at (Some step) are =
      let task : Task = record { line = line.number; step = step } in
      rest at task (tasks_of lines) (goes_to at task) are

  line_gated : (line : Line) (lines : List Line) (step : Option Step)
      → ((name : Option ℕ) → AreOwn (filter (goes_to (position name)) (task_of line step (tasks_of lines))))
      → IsGatedBy told worker line step
  line_gated line lines None are = tt
  line_gated line lines (Some step) are =
      here (position (loader_of step)) (record { line = line.number; step = step }) (tasks_of lines)
      (eq-eqb (position (loader_of step)) (position (loader_of step)) refl) (are (loader_of step))

  dealt_gated : (lines : List Line) → ((name : Option ℕ) → AreOwn (tasks_at position (position name) lines))
      → AllByRecursion (λ (line : Line). IsGatedBy told worker line (step_of line.command)) lines
  dealt_gated [] are = tt
  dealt_gated (line ∷ lines) are = (
    line_gated line lines (step_of line.command) are,
    dealt_gated lines (λ name. others line lines (position name) (step_of line.command) (are name)),
  )

-- So it is where each share is worked by the worker whose turn it is.
own_tasks_gated : (told : GateCall → Type 0) (worker : Option ℕ → ℕ) (share : Share) (tasks : List Task)
    → AllByRecursion (λ (task : Task). share.worker ≡ worker (loader_of task.step)) tasks
    → AllByRecursion (λ (task : Task). IsGated told share.worker task.line) tasks
    → AllByRecursion (λ (task : Task). IsGated told (worker (loader_of task.step)) task.line) tasks
own_tasks_gated told worker share [] own gated = tt
own_tasks_gated told worker share (task ∷ tasks) own gated = (
  subst (λ (one : ℕ). IsGated told one task.line) own.0 gated.0,
  own_tasks_gated told worker share tasks own.1 gated.1,
)

pub shares_gated : (told : GateCall → Type 0) (worker : Option ℕ → ℕ) (position : Position) (shared : LockState)
    (shares : List Share) (lines : List Line) (loaders : List (ℕ × LoaderView))
    → AreDealt position shared shares lines loaders → AreWorkedByTurn worker shares lines
    → All (λ (share : Share). AreTasksGated told share.worker (tasks_in lines share)) shares
    → AreGated told worker lines
shares_gated told worker position shared shares lines loaders dealt turns gated =
    All-from_recursion (λ (line : Line). IsGatedBy told worker line (step_of line.command)) lines
    (dealt_gated told worker position lines (λ name.
    let there = share_at shares (position name) (dealt.within name) in
    subst (AllByRecursion (λ (task : Task). IsGated told (worker (loader_of task.step)) task.line))
    (dealt.tasks (position name) there.0 there.1)
    (own_tasks_gated told worker there.0 (tasks_in lines there.0)
    (recursion_from_All (λ (task : Task). there.0.worker ≡ worker (loader_of task.step)) (tasks_in lines there.0)
    (turns (position name) there.0 there.1))
    (recursion_from_All (λ (task : Task). IsGated told there.0.worker task.line) (tasks_in lines there.0)
    (at_position (λ (share : Share). AreTasksGated told share.worker (tasks_in lines share)) shares (position name)
    there.0 gated there.1)))))

-- Where there is one share, its worker is that of each line.
only_share : (turn : TurnState) (step : Step) → shares_in turn ≡ 1 → HasOwnShare turn (Some step)
    → slice_index_or turn.active 0 0 ≡ worker_in turn (loader_of step)
only_share turn step one own =
    let last : shares_in turn - 1 ≡ 0 = omega (arith, one) in
    let first : position_in turn (loader_of step) ≡ 0 =
    ap (λ (n : ℕ). min (slice_index_or turn.positions (worker_in turn (loader_of step)) 0) n) last
    ∙ min-zero (slice_index_or turn.positions (worker_in turn (loader_of step)) 0) in
    ap (λ (n : ℕ). slice_index_or turn.active n 0) (sym first) ∙ own

only_gated : (told : GateCall → Type 0) (turn : TurnState) (line : Line) (step : Option Step) → shares_in turn ≡ 1
    → HasOwnShare turn step → IsGatedBy told (λ name. slice_index_or turn.active 0 0) line step
    → IsGatedBy told (worker_in turn) line step
only_gated told turn line None one own gated = tt
only_gated told turn line (Some step) one own gated =
    subst (λ (worker : ℕ). IsGated told worker line.number) (only_share turn step one own) gated

pub alone_gated : (told : GateCall → Type 0) (turn : TurnState) (lines : List Line) (worker : ℕ) → shares_in turn ≡ 1
    → worker ≡ slice_index_or turn.active 0 0 → HaveOwnShares turn lines → AreGated told (λ name. worker) lines
    → AreGated told (worker_in turn) lines
alone_gated told turn lines worker one is own gated = λ at line within.
    only_gated told turn (get_or lines at line) (step_of (get_or lines at line).command) one (own at line within)
    (subst (λ (w : ℕ). IsGatedBy told (λ name. w) (get_or lines at line) (step_of (get_or lines at line).command)) is
    (gated at line within))

-- The workers are still the same.
pub still_gated : (told : GateCall → Type 0) (old new : TurnState) (lines : List Line) → IsSameTurn old new
    → AreGated told (worker_in new) lines → AreGated told (worker_in old) lines
still_gated told old new lines same gated =
    subst (λ (n : ℕ). AreGated told (worker_by old.first old.phase n) lines) same.workers
    (subst (λ (n : ℕ). AreGated told (worker_by old.first n new.workers) lines) same.phase
    (subst (λ (l : List ℕ). AreGated told (worker_by l new.phase new.workers) lines) same.first gated))

-- The phase after some lines.
abbrev pub phase_past : ℕ → List Line → ℕ
phase_past phase [] = phase
phase_past phase (line ∷ lines) = phase_past (phase_after phase (step_of line.command)) lines

pub past_more : (phase : ℕ) (lines more : List Line) → phase_past phase (lines ++ more)
    ≡ phase_past (phase_past phase lines) more
past_more phase [] more = refl
past_more phase (line ∷ lines) more = past_more (phase_after phase (step_of line.command)) lines more

-- Lines gated phase by phase, and then others.
pub from_append : (told : GateCall → Type 0) (trace : List Line) (workers phase : ℕ) (lines more : List Line)
    → AreGatedFrom told trace workers phase lines → AreGatedFrom told trace workers (phase_past phase lines) more
    → AreGatedFrom told trace workers phase (lines ++ more)
from_append told trace workers phase [] more first then = then
from_append told trace workers phase (line ∷ lines) more first then =
    (first.0, from_append told trace workers (phase_after phase (step_of line.command)) lines more first.1 then)

-- Those of one phase, and the line that ends it.
abbrev AsksStep : Line → Type 0
AsksStep line = (step : Step) × (step_of line.command ≡ Some step)

steps_past : (phase : ℕ) (lines : List Line) → AllByRecursion AsksStep lines → phase_past phase lines ≡ phase
steps_past phase [] steps = refl
steps_past phase (line ∷ lines) steps =
    ap (λ (step : Option Step). phase_past (phase_after phase step) lines) steps.0.1 ∙ steps_past phase lines steps.1

phase_gated : (told : GateCall → Type 0) (trace : List Line) (workers phase : ℕ) (worker : Option ℕ → ℕ)
    (lines : List Line) → IsByTurn trace workers phase worker → AllByRecursion AsksStep lines
    → AllByRecursion (λ (line : Line). IsGatedBy told worker line (step_of line.command)) lines
    → AreGatedFrom told trace workers phase lines
phase_gated told trace workers phase worker [] turns steps gated = tt
phase_gated told trace workers phase worker (line ∷ lines) turns steps gated = (
  (worker, turns, gated.0),
  subst (λ (n : ℕ). AreGatedFrom told trace workers n lines)
      (sym (ap (phase_after phase) steps.0.1))
      (phase_gated told trace workers phase worker lines turns steps.1 gated.1),
)

-- The first lines are gated phase by phase, and the next one stands in the phase of this number.
pub record GatedFirst (told : GateCall → Type 0) (workers : ℕ) (trace lines : List Line) (phase : ℕ) : Type 0 where
  pub gated : AreGatedFrom told trace workers 0 lines
  pub past : phase_past 0 lines ≡ phase

pub gated_start : (told : GateCall → Type 0) (workers : ℕ) (trace : List Line) → GatedFirst told workers trace [] 0
gated_start told workers trace = record {
  gated = tt;
  past = refl;
}

pub gated_more : (told : GateCall → Type 0) (workers : ℕ) (trace lines more : List Line) (phase : ℕ)
    (worker : Option ℕ → ℕ) → GatedFirst told workers trace lines phase → IsByTurn trace workers phase worker
    → AreSteps more → AreGated told worker more → GatedFirst told workers trace (lines ++ more) phase
gated_more told workers trace lines more phase worker so_far turns steps gated =
    let asked = recursion_from_All AsksStep more steps in
    record {
      gated = from_append told trace workers 0 lines more so_far.gated
          (subst (λ (n : ℕ). AreGatedFrom told trace workers n more) (sym so_far.past)
          (phase_gated told trace workers phase worker more turns asked
          (recursion_from_All (λ (line : Line). IsGatedBy told worker line (step_of line.command)) more gated)));
      past = past_more 0 lines more ∙ ap (λ (n : ℕ). phase_past n more) so_far.past ∙ steps_past phase more asked;
    }

pub gated_next : (told : GateCall → Type 0) (workers : ℕ) (trace lines : List Line) (line : Line) (phase : ℕ)
    (worker : Option ℕ → ℕ) → GatedFirst told workers trace lines phase → IsByTurn trace workers phase worker
    → step_of line.command ≡ None → GatedFirst told workers trace (lines ++ line ∷ []) (suc phase)
gated_next told workers trace lines line phase worker so_far turns none = record {
  gated = from_append told trace workers 0 lines (line ∷ []) so_far.gated
      (subst (λ (n : ℕ). AreGatedFrom told trace workers n (line ∷ [])) (sym so_far.past)
      ((worker, turns, between_gated told worker line (step_of line.command) none), tt));
  past = past_more 0 lines (line ∷ []) ∙ ap (λ (n : ℕ). phase_past n (line ∷ [])) so_far.past
      ∙ ap (phase_after phase) none;
}

-- One worker's lines are its own in each phase.
alone_turn : (trace : List Line) (phase : ℕ) → IsByTurn trace 1 phase (λ name. 0)
alone_turn trace phase = record {
  purge = refl;
  loaders = λ number name found. let below = mod_below (number + phase) 1 (omega arith) in omega (arith, below);
}

one_gated : (told : GateCall → Type 0) (trace : List Line) (phase : ℕ) (lines : List Line)
    → AllByRecursion (λ (line : Line). IsGatedBy told (λ name. 0) line (step_of line.command)) lines
    → AreGatedFrom told trace 1 phase lines
one_gated told trace phase [] gated = tt
one_gated told trace phase (line ∷ lines) gated = (
  ((λ name. 0), alone_turn trace phase, gated.0),
  one_gated told trace (phase_after phase (step_of line.command)) lines gated.1,
)

pub one_worker_gated : (told : GateCall → Type 0) (workers : ℕ) (lines trace : List Line) → workers ≡ 1 → lines ≡ trace
    → AreGated told (λ name. 0) lines → AreGatedByTurn told workers trace
one_worker_gated told workers lines trace one same gated =
    subst (λ (n : ℕ). AreGatedByTurn told n trace) (sym one)
    (subst (λ (l : List Line). AreGatedByTurn told 1 l) same
    (one_gated told lines 0 lines
    (recursion_from_All (λ (line : Line). IsGatedBy told (λ name. 0) line (step_of line.command)) lines gated)))

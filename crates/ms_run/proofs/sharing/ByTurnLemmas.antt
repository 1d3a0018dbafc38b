-- Shares that are worked by the workers whose turn it is; for `deal_to` and `deal`.
use Rattle.std.proofs.Common.{◌≡◌, ◌+◌, ℕ, zero, suc, true, false, cond, Option, Some, None, List, [], ◌∷◌, ◌++◌, length}
use Rattle.std.proofs.Common.{slice_get, refl, sym, ap, ◌∙◌, subst, arith}
use Rattle.std.specs.Prelude.{◌==◌, slice_index_or}
use Rattle.std.specs.List.{All, AllByRecursion, filter}
use Rattle.std.proofs.lemmas.Bool.{eqb-true}
use Rattle.std.proofs.lemmas.List.Elements.{All-from_recursion, recursion_from_All}
use Rattle.ms_base.specs.declared.step.Step.{Step}
use Rattle.ms_base.specs.Request.{loader_of}
use Rattle.ms_trace.specs.declared.trace.Line.{Line}
use Rattle.ms_trace.specs.Steps.{step_of}
use Rattle.ms_run.specs.declared.share.Share.{Share}
use Rattle.ms_run.specs.declared.share.Task.{Task}
use Rattle.ms_run.specs.Dealing.{AreWorkersFrom}
use Rattle.ms_run.specs.Shares.{AreWorkedByTurn, HaveTasks, position_for, task_of, tasks_at, tasks_of}
use Rattle.ms_run.specs.Turn.{HasOwnShare, HaveOwnShares, TurnState, position_in, worker_in}
use Rattle.ms_run.proofs.sharing.StandByLemmas.{same_tasks}

-- No share, shares with one more at their end, and shares with one before them.
pub workers_none : (active : List ℕ) (at : ℕ) (shares : List Share) → shares ≡ [] → AreWorkersFrom active at shares
workers_none active at shares none = subst (AreWorkersFrom active at) (sym none) tt

workers_more : (active : List ℕ) (at : ℕ) (shares : List Share) (share : Share) → AreWorkersFrom active at shares
    → share.worker ≡ slice_index_or active (at + length shares) 0 → AreWorkersFrom active at (shares ++ share ∷ [])
workers_more active at [] share are is = (is ∙ ap (λ (n : ℕ). slice_index_or active n 0) (omega arith), tt)
workers_more active at (x ∷ shares) share are is = (
  are.0,
  workers_more active (suc at) shares share are.1 (is ∙ ap (λ (n : ℕ). slice_index_or active n 0) (omega arith)),
)

pub workers_pushed : (active : List ℕ) (at : ℕ) (shares new : List Share) (share : Share) → AreWorkersFrom active 1 shares
    → share.worker ≡ slice_index_or active at 0 → at ≡ length shares + 1 → new ≡ shares ++ share ∷ []
    → AreWorkersFrom active 1 new
workers_pushed active at shares new share are worker is pushed =
    subst (AreWorkersFrom active 1) (sym pushed)
    (workers_more active 1 shares share are
    (worker ∙ ap (λ (n : ℕ). slice_index_or active n 0) (let e : at ≡ 1 + length shares = omega (arith, is) in e)))

pub workers_put : (active : List ℕ) (shares all : List Share) (share : Share) → AreWorkersFrom active 1 shares
    → share.worker ≡ slice_index_or active 0 0 → all ≡ share ∷ shares → AreWorkersFrom active 0 all
workers_put active shares all share are worker put = subst (AreWorkersFrom active 0) (sym put) (worker, are)

worker_at : (active : List ℕ) (from : ℕ) (shares : List Share) (at : ℕ) (share : Share) → AreWorkersFrom active from shares
    → slice_get shares at ≡ Some share → share.worker ≡ slice_index_or active (from + at) 0
worker_at active from [] at share are found = absurd (cc)
worker_at active from (x ∷ shares) zero share are found =
    let same : x ≡ share = cc in
    ap (λ (s : Share). s.worker) (sym same) ∙ are.0 ∙ ap (λ (n : ℕ). slice_index_or active n 0) (omega arith)
worker_at active from (x ∷ shares) (suc at) share are found =
    worker_at active (suc from) shares at share are.1 found ∙ ap (λ (n : ℕ). slice_index_or active n 0) (omega arith)

-- The tasks that lines make for a share are its worker's.
module _ (turn : TurnState) (at : ℕ) where
  abbrev AreOwn : List Task → Type 0
  AreOwn tasks =
      AllByRecursion (λ (task : Task). slice_index_or turn.active at 0 ≡ worker_in turn (loader_of task.step)) tasks

  one_more : (line : Line) (lines : List Line) (step : Option Step) → HasOwnShare turn step
      → AreOwn (tasks_at (position_in turn) at lines)
      → AreOwn (filter (λ (task : Task). position_in turn (loader_of task.step) == at) (task_of line step (tasks_of lines)))
  one_more line lines None is are = are
  one_more line lines (Some step) is are =
      elim (position_in turn (loader_of step) == at) as (λ b. (position_in turn (loader_of step) == at) ≡ b
      → AreOwn (cond b (record { line = line.number; step = step } ∷ tasks_at (position_in turn) at lines)
      (tasks_at (position_in turn) at lines))) [
        | true ↦ λ here. (
          ap (λ (n : ℕ). slice_index_or turn.active n 0) (sym (eqb-true (position_in turn (loader_of step)) at here)) ∙ is,
          are,
        )
        | false ↦ λ elsewhere. are
      ] refl

  own_tasks : (lines : List Line) → AllByRecursion (λ (line : Line). HasOwnShare turn (step_of line.command)) lines
      → AreOwn (tasks_at (position_in turn) at lines)
  own_tasks [] shared = tt
  own_tasks (line ∷ lines) shared = one_more line lines (step_of line.command) shared.0 (own_tasks lines shared.1)

-- Each share that is dealt has only tasks of its worker.
pub worked_by_turn : (turn : TurnState) (lines : List Line) (shares : List Share) → HaveOwnShares turn lines
    → AreWorkersFrom turn.active 0 shares → HaveTasks (position_for (position_in turn) lines) shares lines
    → AreWorkedByTurn (worker_in turn) shares lines
worked_by_turn turn lines shares shared are have at share found =
    subst (λ (tasks : List Task). All (λ (task : Task). share.worker ≡ worker_in turn (loader_of task.step)) tasks)
    (sym (have at share found ∙ same_tasks (position_in turn) lines at))
    (subst (λ (worker : ℕ). All (λ (task : Task). worker ≡ worker_in turn (loader_of task.step)) (tasks_at (position_in turn) at lines))
    (sym (worker_at turn.active 0 shares at share are found ∙ ap (λ (n : ℕ). slice_index_or turn.active n 0) (omega arith)))
    (All-from_recursion _ (tasks_at (position_in turn) at lines) (own_tasks turn at lines (recursion_from_All _ lines shared))))

-- Lines dealt to lists of indices by their positions, and the lists that are taken. For `deal_lines`,
-- `add_line` and `deal_to`.
use Rattle.std.proofs.Common.{◌≡◌, ◌≢◌, ◌<◌, ◌+◌, ℕ, zero, suc, Bool, true, false, cond, Option, Some, List, [], ◌∷◌}
use Rattle.std.proofs.Common.{◌++◌, length, refl, sym, ap, ◌∙◌, subst, ◌⊎◌, inl, inr, ⊎_elim, arith, eq-eqb, ne_eqb}
use Rattle.std.proofs.Common.{take, get_or, slice_get, Vec, Global, slice_set, append-nil}
use Rattle.std.specs.Prelude.{◌==◌}
use Rattle.std.proofs.lemmas.List.{map-append, take_more}
use Rattle.ms_base.specs.declared.step.Step.{Step}
use Rattle.ms_base.specs.Request.{loader_of}
use Rattle.ms_trace.specs.declared.trace.Line.{Line}
use Rattle.ms_trace.specs.declared.trace.Command.{Command}
use Rattle.ms_trace.specs.declared.trace.Command.TheVariants.{Step as Asks}
use Rattle.ms_trace.specs.Steps.{step_of}
use Rattle.ms_run.specs.declared.share.Task.{Task}
use Rattle.ms_run.specs.Shares.{Position, task_at, task_by, task_if, task_of, tasks_at, tasks_by, tasks_of}
use Rattle.ms_run.proofs.replays.ReplayLemmas.{none_asked}
use Rattle.ms_run.proofs.sharing.TaskLemmas.{at_append}
use Rattle.ms_run.specs.Dealing.{IndexLists, AreListed, AreEmpty, AreAdded}

-- A task that goes to a position.
abbrev goes_to : Position → ℕ → Task → Bool
goes_to position at task = position (loader_of task.step) == at

-- What stands at a position where one was set.
set_there : {X : Type 0} (xs : List X) (i k : ℕ) (x y : X) → slice_get (slice_set xs i y) k ≡ Some x
    → ((k ≡ i) × (x ≡ y)) ⊎ ((k ≢ i) × (slice_get xs k ≡ Some x))
set_there [] i k x y found = absurd (cc)
set_there (z ∷ xs) zero zero x y found = inl (refl, cc)
set_there (z ∷ xs) zero (suc k) x y found = inr ((λ same. omega (arith, same)), found)
set_there (z ∷ xs) (suc i) zero x y found = inr ((λ same. omega (arith, same)), found)
set_there (z ∷ xs) (suc i) (suc k) x y found =
    ⊎_elim (λ here. inl (ap (λ (n : ℕ). suc n) here.0, here.1))
    (λ there. inr ((λ same. there.0 (omega (arith, same))), there.1)) (set_there xs i k x y found)

-- A task goes to one list.
added_by : (all : List Line) (position : Position) (task : Task) (i : ℕ) (lists : IndexLists) (was new : Vec ℕ Global)
    → i ≡ position (loader_of task.step) → slice_get lists i ≡ Some was
    → tasks_by all new.items ≡ tasks_by all was.items ++ task ∷ []
    → AreAdded all (task ∷ []) position lists (slice_set lists i new)
added_by all position task i lists was new goes stood more at list found =
    ⊎_elim
    (λ here. (
      was,
      ap (λ (n : ℕ). slice_get lists n) here.0 ∙ stood,
      ap (λ (v : Vec ℕ Global). tasks_by all v.items) here.1 ∙ more
          ∙ ap (λ (l : List Task). tasks_by all was.items ++ l)
          (sym (is_kept (goes_to position at task) (eq-eqb (position (loader_of task.step)) at (sym goes ∙ sym here.0)))),
    ))
    (λ there. (
      list,
      there.1,
      sym (append-nil (tasks_by all list.items))
          ∙ ap (λ (l : List Task). tasks_by all list.items ++ l)
          (sym (not_kept (goes_to position at task)
          (ne_eqb (position (loader_of task.step)) at (λ same. there.0 (sym same ∙ sym goes))))),
    ))
    (set_there lists i at list new found)
  where
    is_kept : (b : Bool) → b ≡ true → cond b (task ∷ []) [] ≡ task ∷ []
    is_kept b e = ap (λ c. cond c (task ∷ []) []) e

    not_kept : (b : Bool) → b ≡ false → cond b (task ∷ []) [] ≡ []
    not_kept b e = ap (λ c. cond c (task ∷ []) []) e

pub one_added : (all : List Line) (position : Position) (line : Line) (step : Step) (index i : ℕ) (lists : IndexLists)
    (was new : Vec ℕ Global) → slice_get all index ≡ Some line
    → line.command ≡ Asks step → i ≡ position (loader_of step)
    → slice_get lists i ≡ Some was → new.items ≡ was.items ++ index ∷ []
    → AreAdded all (tasks_of (line ∷ [])) position lists (slice_set lists i new)
one_added all position line step index i lists was new is asks goes stood more =
    subst (λ (l : List Task). AreAdded all l position lists (slice_set lists i new))
    (ap (λ (c : Command). task_of line (step_of c) []) (sym asks))
    (added_by all position (record { line = line.number; step = step }) i lists was new goes stood
    (ap (tasks_by all) more ∙ map-append (task_at all) was.items (index ∷ [])
    ∙ ap (λ (t : Task). tasks_by all was.items ++ t ∷ [])
    (ap task_if is ∙ ap (λ (c : Command). task_by line.number (step_of c)) asks)))

-- A line that asks no step adds none.
pub none_added : (all : List Line) (position : Position) (line : Line) (lists : IndexLists)
    → ((step : Step) → line.command ≡ Asks step → ⊥) → AreAdded all (tasks_of (line ∷ [])) position lists lists
none_added all position line lists other =
    subst (λ (l : List Task). AreAdded all l position lists lists)
    (ap (λ (o : Option Step). task_of line o []) (sym (none_asked line.command other)))
    (λ at list found. (list, found, sym (append-nil (tasks_by all list.items))))

-- The lists of some lines, and of one line more.
pub listed_none : (all : List Line) (position : Position) (lists : IndexLists) → AreEmpty lists
    → AreListed all position [] lists
listed_none all position lists empty = λ at list found. ap (tasks_by all) (empty at list found)

pub listed_more : (all : List Line) (position : Position) (lines : List Line) (i : ℕ) (d : Line)
    (lists new : IndexLists) → i < length lines → AreListed all position (take i lines) lists
    → AreAdded all (tasks_of (get_or lines i d ∷ [])) position lists new → AreListed all position (take (i + 1) lines) new
listed_more all position lines i d lists new within before added = λ at list found.
    let its = added at list found in
    its.2 ∙ ap (λ (l : List Task). l ++ tasks_at position at (get_or lines i d ∷ [])) (before at its.0 its.1)
    ∙ sym (at_append position at (take i lines) (get_or lines i d ∷ []))
    ∙ ap (tasks_at position at) (sym (take_more lines i d within))

-- One more list that is empty.
at_end : {X : Type 0} (xs : List X) (x : X) (k : ℕ) (y : X) → slice_get (xs ++ x ∷ []) k ≡ Some y
    → (slice_get xs k ≡ Some y) ⊎ (y ≡ x)
at_end [] x zero y found = inr (cc)
at_end [] x (suc k) y found = absurd (cc)
at_end (z ∷ xs) x zero y found = inl found
at_end (z ∷ xs) x (suc k) y found = at_end xs x k y found

pub empty_more : (lists new : IndexLists) (list : Vec ℕ Global) → AreEmpty lists → new ≡ lists ++ list ∷ []
    → list.items ≡ [] → AreEmpty new
empty_more lists new list empty are none =
    rw are (λ at one found. ⊎_elim (λ was. empty at one was) (λ is. ap (λ (v : Vec ℕ Global). v.items) is ∙ none)
    (at_end lists list at one found))

-- The lists that were not taken yet: the first one, and those of the positions to come.
abbrev pub AreLeft : Position → List Line → ℕ → IndexLists → Type 0
AreLeft position lines done lists = (at : ℕ) (list : Vec ℕ Global) → (at ≡ 0) ⊎ (done < at)
    → slice_get lists at ≡ Some list → tasks_by lines list.items ≡ tasks_at position at lines

pub left_starts : (position : Position) (lines : List Line) (done : ℕ) (lists : IndexLists)
    → AreListed lines position lines lists → AreLeft position lines done lists
left_starts position lines done lists listed = λ at list cases found. listed at list found

pub left_more : (position : Position) (lines : List Line) (done more at : ℕ) (lists new : IndexLists)
    → AreLeft position lines done lists → more ≡ done + 1 → at ≡ done + 1
    → ((other : ℕ) → other ≢ at → slice_get new other ≡ slice_get lists other) → AreLeft position lines more new
left_more position lines done more at lists new its more_is at_is others = λ k list cases found.
    its k list (⊎_elim (λ none. inl none) (λ above. inr (omega (arith, above, more_is))) cases)
    (sym (others k (elsewhere k cases)) ∙ found)
  where
    elsewhere : (k : ℕ) → (k ≡ 0) ⊎ (more < k) → k ≢ at
    elsewhere k (inl none) same = omega (arith, none, same, at_is)
    elsewhere k (inr above) same = omega (arith, above, same, at_is, more_is)

pub empty_first : (lists : IndexLists) → lists ≡ [] → AreEmpty lists
empty_first lists none = rw none (λ at list found. absurd (cc))

-- Loaders that stand by: which names a share's tasks have, and that positions which differ only for
-- other names deal and merge alike. For dealing.rt and phase.rt.
use Rattle.std.proofs.Common.{◌≡◌, ◌≢◌, ◌≤◌, ◌<◌, ◌+◌, ℕ, Bool, true, false, cond, ◌||◌, ◌&&◌, Option, Some, None, List}
use Rattle.std.proofs.Common.{[], ◌∷◌, length, refl, sym, ap, ◌∙◌, subst, arith, eq-eqb, ne_eqb, drop, drop-cons, get_or, suc}
use Rattle.std.specs.Prelude.{◌==◌}
use Rattle.std.specs.List.{AllByRecursion, filter}
use Rattle.std.proofs.lemmas.Bool.{eqb-true, or_right}
use Rattle.ms_base.specs.declared.step.Step.{Step}
use Rattle.ms_base.specs.Committed.{is_among}
use Rattle.ms_base.specs.Request.{loader_of}
use Rattle.ms_trace.specs.declared.trace.Line.{Line}
use Rattle.ms_answers.specs.declared.replies.Answer.{Answer}
use Rattle.ms_run.specs.declared.share.Task.{Task}
use Rattle.ms_run.specs.declared.share.Share.{Share}
use Rattle.ms_base.specs.Run.Own.{Said}
use Rattle.ms_run.specs.Replay.{AreSaid}
use Rattle.ms_run.specs.Shares.{Position, AreWithin, AreMerged, names_in, name_with, position_by, position_for, task_of}
use Rattle.ms_run.specs.Shares.{tasks_of, tasks_at}
use Rattle.ms_run.specs.Dealing.{Loaded, AreHanded, AreHandedAt}

-- The names of the tasks from one on are its own, and those of the tasks after it.
pub names_from : (tasks : List Task) (i : ℕ) (task : Task) → i < length tasks → get_or tasks i task ≡ task
    → names_in (drop i tasks) ≡ name_with (loader_of task.step) (names_in (drop (i + 1) tasks))
names_from tasks i task within is =
    let next : suc i ≡ i + 1 = omega arith in
    ap names_in (drop-cons tasks i task within) ∙ ap (λ n. names_in (get_or tasks i task ∷ drop n tasks)) next
    ∙ ap (λ (t : Task). name_with (loader_of t.step) (names_in (drop (i + 1) tasks))) is

-- A name is of the tasks that go to a position, where it is of the tasks and goes there.
or_more : (b c d p : Bool) → c ≡ (d && p) → (b ≡ true → p ≡ true) → (b || c) ≡ ((b || d) && p)
or_more true c d true same goes = refl
or_more true c d false same goes = absurd (let no : false ≡ true = goes refl in cc)
or_more false c d p same goes = same

or_less : (b c d p : Bool) → c ≡ (d && p) → (b ≡ true → p ≡ false) → c ≡ ((b || d) && p)
or_less true c true true same stays = absurd (let no : true ≡ false = stays refl in cc)
or_less true c false true same stays = absurd (let no : true ≡ false = stays refl in cc)
or_less true c true false same stays = same
or_less true c false false same stays = same
or_less false c d p same stays = same

abbrev at_position : Position → ℕ → List Task → List Task
at_position position at xs = filter (λ (task : Task). position (loader_of task.step) == at) xs

pub among_at : (position : Position) (at : ℕ) (xs : List Task) (name : ℕ)
    → is_among (names_in (at_position position at xs)) name ≡ (is_among (names_in xs) name && (position (Some name) == at))
among_at position at [] name = refl
among_at position at (x ∷ xs) name =
    by_name (loader_of x.step) refl (position (loader_of x.step) == at) refl (among_at position at xs name)
  where
    by_name : (o : Option ℕ) → loader_of x.step ≡ o → (b : Bool) → (position (loader_of x.step) == at) ≡ b
        → is_among (names_in (at_position position at xs)) name
        ≡ (is_among (names_in xs) name && (position (Some name) == at))
        → is_among (names_in (cond b (x ∷ at_position position at xs) (at_position position at xs))) name
        ≡ (is_among (name_with (loader_of x.step) (names_in xs)) name && (position (Some name) == at))
    by_name None is true goes rest = rw is rest
    by_name None is false stays rest = rw is rest
    by_name (Some n) is true goes rest = rw is (or_more (n == name) _ _ _ rest
        (λ e. ap (λ (k : ℕ). position (Some k) == at) (sym (eqb-true n name e)) ∙ (rw is at goes)))
    by_name (Some n) is false stays rest = rw is (or_less (n == name) _ _ _ rest
        (λ e. ap (λ (k : ℕ). position (Some k) == at) (sym (eqb-true n name e)) ∙ (rw is at stays)))

-- What went over by the names of a share's tasks went over by its position.
goes_there : (c : Bool) (p at : ℕ) → 1 ≤ at → cond c p 0 ≡ at → (c && (p == at)) ≡ true
goes_there true p at some is = eq-eqb p at is
goes_there false p at some is = absurd (omega (arith, some, is))

stays_away : (c : Bool) (p at : ℕ) → cond c p 0 ≢ at → (c && (p == at)) ≡ false
stays_away true p at differs = ne_eqb p at differs
stays_away false p at differs = refl

pub handed_at : (position : Position) (lines : List Line) (at : ℕ) (tasks : List Task) (left left' others : Loaded) → 1 ≤ at
    → tasks ≡ tasks_at position at lines → AreHanded (names_in tasks) left left' others
    → AreHandedAt (position_for position lines) at left left' others
handed_at position lines at tasks left left' others some are its = record {
  here = λ name is. its.here name (among name ∙ goes_there (is_among all name) (position (Some name)) at some is);
  apart = λ name differs. its.apart name
      (among name ∙ stays_away (is_among all name) (position (Some name)) at differs);
}
  where
    all : List ℕ
    all = names_in (tasks_of lines)

    among : (name : ℕ) → is_among (names_in tasks) name ≡ (is_among all name && (position (Some name) == at))
    among name = ap (λ (l : List Task). is_among (names_in l) name) are ∙ among_at position at (tasks_of lines) name

-- Filters by tests that agree on the elements.
alike : {X : Type 0} (p q : X → Bool) (xs : List X) → AllByRecursion (λ x. p x ≡ q x) xs → filter p xs ≡ filter q xs
alike p q [] same = refl
alike {X} p q (x ∷ xs) same =
    ap (λ b. cond b (x ∷ filter p xs) (filter p xs)) same.0
    ∙ ap (λ (l : List X). cond (q x) (x ∷ l) l) (alike p q xs same.1)

-- A position that is kept for the names of a list.
abbrev IsIn : List ℕ → List ℕ → Type 0
IsIn names all = (name : ℕ) → is_among names name ≡ true → is_among all name ≡ true

first_in : (o : Option ℕ) (names all : List ℕ) → IsIn (name_with o names) all → IsIn names all
first_in None names all sub = sub
first_in (Some n) names all sub = λ name e. sub name (or_right (n == name) (is_among names name) e)

kept_position : (position : Position) (o : Option ℕ) (names all : List ℕ) → IsIn (name_with o names) all
    → position_by position all o ≡ position o
kept_position position None names all sub = refl
kept_position position (Some n) names all sub =
    ap (λ c. cond c (position (Some n)) 0) (sub n (ap (λ b. b || is_among names n) (eq-eqb n n refl)))

tasks_alike : (position : Position) (all : List ℕ) (at : ℕ) (xs : List Task) → IsIn (names_in xs) all
    → AllByRecursion (λ (task : Task). (position_by position all (loader_of task.step) == at)
    ≡ (position (loader_of task.step) == at)) xs
tasks_alike position all at [] sub = tt
tasks_alike position all at (x ∷ xs) sub = (
  ap (λ (n : ℕ). n == at) (kept_position position (loader_of x.step) (names_in xs) all sub),
  tasks_alike position all at xs (first_in (loader_of x.step) (names_in xs) all sub),
)

-- The lines go to the same shares.
pub same_tasks : (position : Position) (lines : List Line) (at : ℕ)
    → tasks_at (position_for position lines) at lines ≡ tasks_at position at lines
same_tasks position lines at =
    alike (λ (task : Task). position_for position lines (loader_of task.step) == at)
    (λ (task : Task). position (loader_of task.step) == at) (tasks_of lines)
    (tasks_alike position (names_in (tasks_of lines)) at (tasks_of lines) (λ name e. e))

-- What was said is at the positions that a position, and one that is the same, has for it.
at_all_positions : (position other : Position) → ((name : Option ℕ) → position name ≡ other name) → (all : List ℕ) (lines : List Line)
    (answers : List Answer) (said : List Said) → AreSaid lines answers said → IsIn (names_in (tasks_of lines)) all
    → AllByRecursion (λ (s : Said). position_by position all (loader_of s.0) ≡ other (loader_of s.0)) said
at_all_positions position other same all [] [] [] told sub = tt
at_all_positions position other same all (line ∷ lines) (answer ∷ answers) (s ∷ said) told sub =
    let mine : IsIn (name_with (loader_of s.0) (names_in (tasks_of lines))) all =
    subst (λ (o : Option Step). IsIn (names_in (task_of line o (tasks_of lines))) all) told.0 sub in (
      kept_position position (loader_of s.0) (names_in (tasks_of lines)) all mine ∙ same (loader_of s.0),
      at_all_positions position other same all lines answers said told.4
          (first_in (loader_of s.0) (names_in (tasks_of lines)) all mine),
    )
at_all_positions position other same all _ _ _ told sub = absurd told

pub all_at_positions : (position other : Position) → ((name : Option ℕ) → position name ≡ other name) → (lines : List Line)
    (answers : List Answer) (said : List Said) → AreSaid lines answers said
    → AllByRecursion (λ (s : Said). position_for position lines (loader_of s.0) ≡ other (loader_of s.0)) said
all_at_positions position other same lines answers said told =
    at_all_positions position other same (names_in (tasks_of lines)) lines answers said told (λ name e. e)

-- And so do the replies.
pub same_merged : (position : Position) (others : List Share) (lines : List Line) (answers : List Answer) (said : List Said)
    → AreSaid lines answers said → AreMerged position others lines said
    → AreMerged (position_for position lines) others lines said
same_merged position others lines answers said told merged = λ at share found.
    alike (λ (s : Said). position_for position lines (loader_of s.0) == at) (λ (s : Said). position (loader_of s.0) == at) said
    (tests_alike at said (all_at_positions position position (λ name. refl) lines answers said told))
    ∙ merged at share found
  where
    tests_alike : (at : ℕ) (said : List Said)
        → AllByRecursion (λ (s : Said). position_for position lines (loader_of s.0) ≡ position (loader_of s.0)) said
        → AllByRecursion (λ (s : Said). (position_for position lines (loader_of s.0) == at) ≡ (position (loader_of s.0) == at)) said
    tests_alike at [] all = tt
    tests_alike at (s ∷ said) all = (ap (λ (n : ℕ). n == at) all.0, tests_alike at said all.1)

-- All go to one of the shares still.
pub within_still : (position : Position) (lines : List Line) (count : ℕ) → 1 ≤ count → AreWithin position count
    → AreWithin (position_for position lines) count
within_still position lines count some within None = within None
within_still position lines count some within (Some name) =
    elim (is_among (names_in (tasks_of lines)) name) as (λ c. cond c (position (Some name)) 0 < count) [
      | true ↦ within (Some name)
      | false ↦ omega (arith, some)
    ]

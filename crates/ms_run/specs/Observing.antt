-- What an observer sees of a run by one worker (this project's choice).
use Rattle.std.specs.Prelude.{◌≡◌, ℕ, ◌+◌, ◌-◌, ◌%◌, ◌^◌, List, [], ◌∷◌, Option, Some, None, IfSome, length}
use Rattle.std.specs.List.{All}
use Rattle.ms_base.specs.Names.{named}
use Rattle.ms_base.specs.State.{Limits, LoaderState, empty_machine}
use Rattle.ms_trace.specs.declared.trace.Line.{Line}
use Rattle.ms_loader.specs.declared.amounts.Amounts.{Amounts}
use Rattle.ms_answers.specs.declared.verbosity.Verbosity.TheVariants.{Full}
use Rattle.ms_answers.specs.declared.replies.Answer.{Answer}
use Rattle.ms_answers.specs.declared.totals.Totals.{Totals}
use Rattle.ms_loader.specs.Amounts.{amounts_if, no_amounts}
use Rattle.ms_run.specs.declared.alone.Metered.{Metered}
use Rattle.ms_run.specs.Counting.{HasTaken}
use Rattle.ms_run.specs.Course.{Course, begun}
use Rattle.ms_run.specs.Replay.{Answers, AreOf, HasVerbosity, IsDetailed}
use Rattle.ms_run.specs.Seeing.{Sight, SeesAll, sight_of}
use Rattle.ms_run.specs.Sink.{PutsAll}

-- Each line is answered and then seen, with its reply and with the machine after it.
abbrev pub AreSeen : Course → List Line → List Answer → List Sight → Course → Type 0
AreSeen old [] answers sights new = (answers ≡ []) × (sights ≡ []) × (new ≡ old)
AreSeen old (line ∷ lines) (answer ∷ answers) (sight ∷ sights) new =
    (mid : Course)
    × Answers old (line ∷ []) (answer ∷ []) mid
    × (sight ≡ sight_of line answer.reply mid.state)
    × AreSeen mid lines answers sights new
AreSeen old (line ∷ lines) _ _ new = ⊥

-- From each course that a run may have taken it goes on so, with full reports.
abbrev pub WatchesLines : Metered → List Line → Metered → List Answer → List Sight → Type 0
WatchesLines old lines new answers sights =
    All (IsDetailed Full) answers
    × ((course : Course) → HasTaken course old
    → (later : Course) × AreSeen course lines answers sights later × HasTaken later new)

-- A sink takes answers and an observer sees lines, and this is true of both together.
abbrev pub PutsAndSees : {S O : Type 0} → (S → S → List Answer → Type 0) → (O → O → List Sight → Type 0)
    → (List Answer → List Sight → Type 0) → S → S → O → O → Type 0
PutsAndSees took saw are sink sunk watch watched =
    (answers : List Answer) × (sights : List Sight) × PutsAll took answers sink sunk × SeesAll saw sights watch watched
    × are answers sights

-- A run of all lines, from the machine on that has nothing: its answers with full reports, what was
-- seen of it, and the full totals of the machine that it ends in.
pub record IsObserved (limits : Limits) (lines : List Line) (answers : List Answer) (sights : List Sight)
    (totals : Totals) : Type 0 where
  pub last : Course
  pub seen : AreSeen (begun (empty_machine limits)) lines answers sights last
  pub detailed : All (IsDetailed Full) answers
  pub totals_are : AreOf last totals
  pub full : HasVerbosity Full totals

-- The amounts of the loader of a name, where there is one.
abbrev pub amounts_in : Option ℕ → List (ℕ × LoaderState) → Amounts
amounts_in None loaders = no_amounts
amounts_in (Some name) loaders = amounts_if (named loaders name)

-- A sum of which one part went from one number to another, modulo 2^64.
abbrev pub moved_by : ℕ → ℕ → ℕ → ℕ
moved_by all before after = ((all + after) % 2 ^ 64 + (2 ^ 64 - before)) % 2 ^ 64

-- The last of some sights.
abbrev pub last_sight : List Sight → Option Sight
last_sight [] = None
last_sight (sight ∷ []) = Some sight
last_sight (sight ∷ next ∷ sights) = last_sight (next ∷ sights)

-- Each line is seen once, and the last state that is seen is the one that the run ends in.
abbrev pub LastSightIsTheMachine : Type 0
LastSightIsTheMachine =
    (first last : Course) (lines : List Line) (answers : List Answer) (sights : List Sight)
    → AreSeen first lines answers sights last
    → (length sights ≡ length lines) × IfSome (last_sight sights) (λ sight. sight.state ≡ last.state)

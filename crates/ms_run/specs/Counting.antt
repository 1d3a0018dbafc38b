-- The words in use and the peaks, counted on by one worker from step to step.
use Rattle.std.specs.Prelude.{◌≡◌, ℕ, Bool, true, Option, List, IsTrue}
use Rattle.ms_base.specs.declared.step.Step.{Step}
use Rattle.ms_base.specs.declared.step.Step.TheVariants.{Alloc, Calloc, Unload}
use Rattle.ms_base.specs.Names.{named}
use Rattle.ms_base.specs.State.{LoaderState}
use Rattle.ms_base.specs.Good.{IsGood}
use Rattle.ms_trace.specs.declared.trace.Line.{Line}
use Rattle.ms_answers.specs.declared.verbosity.Verbosity.{Verbosity}
use Rattle.ms_answers.specs.declared.replies.Answer.{Answer}
use Rattle.ms_loader_map.specs.Used.{used_if}
use Rattle.ms_run.specs.declared.alone.Metered.{Metered}
use Rattle.ms_run.specs.Course.{Course, passed}
use Rattle.ms_run.specs.Metering.{used_words_of}
use Rattle.ms_run.specs.Peaks.{ArePeaksIfKept}
use Rattle.ms_run.specs.Replay.{Answers, AreKept, GoesOn, is_full}

-- The words in use of the loader whose tops a step may move, and 0 where it moves none.
abbrev pub used_around : Step → List (ℕ × LoaderState) → ℕ
used_around (Alloc loader block words) loaders = used_if (named loaders loader)
used_around (Calloc loader block words) loaders = used_if (named loaders loader)
used_around (Unload loader) loaders = used_if (named loaders loader)
used_around _ loaders = 0

-- The system is good; where they are counted, the words in use are its. Peaks are kept for full
-- reports, and only where words are counted.
pub record IsCounted (counts : Bool) (verbosity : Verbosity) (run : Metered) : Type 0 where
  pub good : IsGood run.system
  pub used : IsTrue counts → run.used ≡ used_words_of run.system
  pub kept : AreKept verbosity run.peaks
  pub counting : is_full verbosity ≡ true → IsTrue counts

-- A run that took this course: its system is in the last state, and the peaks that it keeps are
-- those of all states.
pub record HasTaken (course : Course) (run : Metered) : Type 0 where
  pub state : run.system ≡ course.state
  pub peaks : ArePeaksIfKept (passed course) run.peaks

-- From each course that a run may have taken it goes on, as lines are answered.
abbrev pub GoesOnBy : Metered → List Line → List Answer → Metered → Type 0
GoesOnBy old lines answers new =
    (course : Course) → HasTaken course old
    → (later : Course) × Answers course lines answers later × HasTaken later new

-- And it goes on as lines are answered by the workers of a phase, or of a part of one.
abbrev pub GoesOnTo : (Option ℕ → ℕ) → Metered → List Line → List Answer → Metered → Type 0
GoesOnTo worker old lines answers new =
    (course : Course) → HasTaken course old
    → (later : Course) × GoesOn worker course lines answers later × HasTaken later new

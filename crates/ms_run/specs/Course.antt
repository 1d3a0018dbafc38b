-- The states that a run passed, up to the one that it is in (this project's choice).
use Rattle.std.specs.Prelude.{List, [], ◌∷◌}
use Rattle.ms_base.specs.State.{Machine}

-- A course: the state that a run is in, and those before it, the latest first.
pub record Course : Type 0 where
  pub state : Machine
  pub before : List Machine

-- All of its states.
abbrev pub passed : Course → List Machine
passed course = course.state ∷ course.before

-- A run that begins in a state, and one that went on to another.
abbrev pub begun : Machine → Course
begun m = record { state = m; before = [] }

abbrev pub on_to : Machine → Course → Course
on_to m course = record { state = m; before = passed course }

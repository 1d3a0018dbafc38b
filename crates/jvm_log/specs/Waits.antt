-- What a machine has still to give, and how it uses the names of loaders.
use Rattle.std.specs.Prelude.{◌≡◌, ℕ, Bool, List, ◌++◌}
use Rattle.ms_trace.specs.declared.trace.Command.{Command}
use Rattle.jvm_log.specs.declared.held.Entry.{Entry}
use Rattle.jvm_log.specs.declared.machine.Machine.{Machine}
use Rattle.jvm_log.specs.Held.{name_acts_of, waiting}
use Rattle.jvm_log.specs.NameActs.{TakesFree}

-- The lines that are held back.
abbrev pub lines_in : Machine → List Entry
lines_in machine = machine.held.entries.items

-- What no line of the log changes: whether reports are asked for, the number of the first line that is held back, and
-- whether more may be known.
pub record Fixed : Type 0 where
  pub reports : Bool
  pub first : ℕ
  pub closed : Bool

abbrev pub fixed_in : Machine → Fixed
fixed_in machine = record { reports = machine.reports; first = machine.held.first; closed = machine.held.closed }

-- The commands that wait, as far as they are known.
abbrev pub waiting_in : Machine → List Command
waiting_in machine = waiting machine.held.entries.items

-- What they do to names.
abbrev pub acts_in : Machine → List (ℕ × Bool)
acts_in machine = name_acts_of machine.held.entries.items

-- Which names are in use, once all that waits is done.
abbrev pub names_in : Machine → List Bool
names_in machine = machine.names

-- Whether nothing more will be known.
abbrev pub is_closed : Machine → Bool
is_closed machine = machine.held.closed

-- What comes to what waits takes names only where they are free.
abbrev pub Uses : List (ℕ × Bool) → List Bool → List (ℕ × Bool) → List Bool → Type 0
Uses old names new names_then =
    (acts : List (ℕ × Bool)) × (new ≡ old ++ acts) × TakesFree names acts names_then

abbrev pub UsesNames : Machine → Machine → Type 0
UsesNames old new = Uses (acts_in old) (names_in old) (acts_in new) (names_in new)

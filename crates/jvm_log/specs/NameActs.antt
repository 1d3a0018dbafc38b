-- What the commands of a trace do to the names of loaders: a name is taken only where no loader has it.
use Rattle.std.specs.Prelude.{◌≡◌, ℕ, Bool, true, false, List, [], ◌∷◌, Some, slice_get, slice_set}
use Rattle.ms_base.specs.declared.step.Step.TheVariants.{New, Unload}
use Rattle.ms_trace.specs.declared.trace.Command.{Command}
use Rattle.ms_trace.specs.declared.trace.Command.TheVariants.{Step as Asks}

-- A command takes a name (true), or gives one back (false), or neither.
abbrev pub name_acts : Command → List (ℕ × Bool)
name_acts (Asks (New loader kind)) = (loader, true) ∷ []
name_acts (Asks (Unload loader)) = (loader, false) ∷ []
name_acts _ = []

-- Names are taken only where they are free: from the flags of those in use to those afterwards.
abbrev pub TakesFree : List Bool → List (ℕ × Bool) → List Bool → Type 0
TakesFree used [] new = new ≡ used
TakesFree used ((name, true) ∷ acts) new =
    (slice_get used name ≡ Some false) × TakesFree (slice_set used name true) acts new
TakesFree used ((name, false) ∷ acts) new = TakesFree (slice_set used name false) acts new

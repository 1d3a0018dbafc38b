-- What is shown of an error is asked for. Used by `get_matches`.
use Rattle.std.proofs.Common.{◌≡◌, ◌⊎◌, List, inl, inr, sym, ◌∙◌}
use Rattle.clap.specs.Words.{App, Text, IsAmong, fault_of}
use Rattle.clap.specs.declared.error.kind.ErrorKind.{ErrorKind}
use Rattle.clap.specs.declared.error.kind.ErrorKind.TheVariants.{DisplayHelp, DisplayVersion, OutOfMemory}
use Rattle.command_line.specs.Told.{AskForIt, IsShown}

-- A kind that is for standard output is no want of memory, so it is the first fault.
pub first_is_shown : (app : App) (words : List Text) (kind : ErrorKind) → IsShown kind
    → (kind ≡ OutOfMemory) ⊎ IsAmong kind (fault_of app words) → AskForIt app words
first_is_shown app words kind (inl help) (inl memory) =
    let both : DisplayHelp ≡ OutOfMemory = sym help ∙ memory in absurd (cc)
first_is_shown app words kind (inr version) (inl memory) =
    let both : DisplayVersion ≡ OutOfMemory = sym version ∙ memory in absurd (cc)
first_is_shown app words kind shown (inr first) = record { kind = kind; shown = shown; first = first }

mod TimesLemmas
mod HolderLemmas
mod OneHolderLemmas
mod CommitLemmas
mod RunToldLemmas
mod AllocRunLemmas
mod AllocTellsLemmas
mod EdgeLemmas
mod ServingLemmas
mod StepServedLemmas
pub mod steps
pub mod sums
pub mod events

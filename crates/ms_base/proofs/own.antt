-- What a step of the machine answers the loader that it names, by its own lines, and so a run.
pub mod OwnRefusedLemmas
pub mod OwnServedLemmas
pub mod OwnStepLemmas
pub mod OwnRunLemmas

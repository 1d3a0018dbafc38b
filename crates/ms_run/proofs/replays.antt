-- A replay from its lines.
pub mod EmptyMachineLemmas
pub mod StepReplayLemmas
pub mod ReplayLemmas

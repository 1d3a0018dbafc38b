-- Steps of a system: each is one of its machine.
pub mod StepLemmas
pub mod AllocStepLemmas
pub mod AlikeLemmas
pub mod AskedLemmas
pub mod OutcomeLemmas
pub mod CauseLemmas
pub mod ServedLemmas
pub mod HasOwnerLemmas
pub mod StillTogetherLemmas
pub mod CallLemmas
pub mod CloseLemmas
pub mod PurgeStepLemmas
pub mod StepGoesLemmas
pub mod UnloadLemmas
pub mod RunLemmas
pub mod AddableLemmas

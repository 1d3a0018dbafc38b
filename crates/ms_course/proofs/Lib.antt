pub mod MomentLemmas
pub mod RefusedLemmas
pub mod GatheringLemmas
pub mod FallingLemmas
pub mod ShowsLemmas
pub mod PeakLemmas
pub mod NestLemmas

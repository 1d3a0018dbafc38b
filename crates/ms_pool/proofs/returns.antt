-- Chunks that are taken back, one and all of an account.
pub mod ReleasedTreeLemmas
pub mod ReleasedChunkLemmas
pub mod ReleasedPartLemmas
pub mod ReleasedGranuleLemmas
pub mod ReleaseLemmas
pub mod UncommitLemmas
pub mod PutBackLemmas
pub mod ClosingLemmas
pub mod PoolSettleLemmas
pub mod ClosedStepLemmas
pub mod ClosedBothLemmas

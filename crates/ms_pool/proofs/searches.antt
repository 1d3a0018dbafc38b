-- The searches: which free part is found, from the leaves and the index.
pub mod SearchLemmas
pub mod RootLemmas
pub mod FreeRootLemmas
pub mod IndexLemmas
pub mod EnoughLemmas
pub mod NextFreeLemmas
pub mod BySizeLemmas
pub mod SlotLoopLemmas
pub mod SkipLemmas
pub mod CoveringLemmas
pub mod LackLemmas
pub mod PickedLemmas
pub mod LevelBitLemmas

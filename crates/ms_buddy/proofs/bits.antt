-- Free leaves as bits: their numbers, what stands beside the way to a part, and how far buddies merge.
pub mod BitLemmas
pub mod NumberLemmas
pub mod BesideLemmas
pub mod FreeNumberLemmas
pub mod FreeBitLemmas
pub mod LeafLevelLemmas
pub mod BuddyLemmas
pub mod TwinLemmas

-- What a node is once a leaf of it is lent, enlarged, given another front or released.
pub mod CarveLemmas
pub mod PartFreeLemmas
pub mod CarvedLemmas
pub mod EnlargeLemmas
pub mod EnlargedLemmas
pub mod FrontedLemmas
pub mod MergeLemmas
pub mod ReleasedLemmas
pub mod LeaderLemmas

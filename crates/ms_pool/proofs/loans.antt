-- A chunk that is lent: trees, granules and what callers see.
pub mod CarvedPartLemmas
pub mod LendLemmas
pub mod OpenLemmas
pub mod LentPartLemmas
pub mod ShownLemmas
pub mod TakingLemmas
pub mod NoneMissingLemmas

-- What is counted of chunks, free parts and granules.
pub mod PoolCountLemmas
pub mod FreeCountLemmas
pub mod LentCountLemmas
pub mod CountedLemmas
pub mod CommittedCountLemmas
pub mod PoolSumsLemmas

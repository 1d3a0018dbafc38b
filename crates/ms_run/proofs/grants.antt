-- What allocations over the lock tell a loader.
pub mod GrantToldLemmas
pub mod GrantClearLemmas
pub mod GrantLemmas

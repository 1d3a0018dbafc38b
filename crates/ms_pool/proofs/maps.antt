-- The map of a root: what its leaves say of a cell, and what they say of it in the pool.
pub mod FoundLemmas
pub mod CellLemmas
pub mod RootMapLemmas
pub mod AlikeMapLemmas

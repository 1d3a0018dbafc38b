-- The machine: it stays good, and what holds of it then.
pub mod HeldLemmas
pub mod SlotLemmas
pub mod GoodLemmas
pub mod ChangeLemmas
pub mod AddedLemmas
pub mod BackedLemmas
pub mod BlockSpaceLemmas
pub mod BlocksApartLemmas
pub mod AllBlocksLemmas
pub mod SumLemmas
pub mod WordLemmas
pub mod ContentsLemmas
pub mod LimitLemmas

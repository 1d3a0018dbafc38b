-- Parts, and which of them are free.
pub mod PartLemmas
pub mod HalvesLemmas
pub mod LevelLemmas
pub mod FreeLemmas
pub mod RoomLemmas
pub mod LargestLemmas
pub mod RisingLemmas
pub mod PickLemmas
pub mod EmptyLemmas
pub mod AlikeLemmas
pub mod MovedLemmas
pub mod OrderLemmas

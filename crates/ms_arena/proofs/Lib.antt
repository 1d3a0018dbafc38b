pub mod HoldLemmas
pub mod ContentsLemmas
mod ChunkLemmas
mod AwaitLemmas
mod KeptLemmas
mod BookLemmas
mod BookTakeLemmas
mod BookGrowLemmas
mod AllocLemmas
mod RawLemmas
mod ArenaLemmas
mod EnterLemmas
mod PagesLemmas
mod PageMakeLemmas
mod CountLemmas
mod PositionLemmas
pub mod OthersLemmas

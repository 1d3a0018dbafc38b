pub mod AsBox
pub mod AsSeat
pub mod RunLemmas
pub mod Walking

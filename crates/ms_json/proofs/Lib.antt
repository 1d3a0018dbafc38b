pub mod WritingLemmas
pub mod ChainLemmas
pub mod RunLemmas
pub mod DocumentLemmas

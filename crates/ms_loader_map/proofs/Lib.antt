pub mod NamedLemmas
pub mod slots

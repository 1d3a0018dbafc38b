pub mod BoxLemmas
pub mod StackLemmas

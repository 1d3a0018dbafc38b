pub mod FilledLemmas
pub mod PageLemmas
pub mod ChangeLemmas
pub mod KeptLemmas
pub mod LentLemmas

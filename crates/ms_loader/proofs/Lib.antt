pub mod TableLemmas
mod SlideLemmas
mod BesideLemmas
mod RefusedLemmas
pub mod MappedLemmas
pub mod SumsLemmas
pub mod calls

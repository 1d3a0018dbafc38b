pub mod NumeralLemmas
pub mod ToldLemmas

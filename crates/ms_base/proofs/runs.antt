-- Runs of words: which meet, which are apart, and how many words they have.
pub mod IntervalLemmas
pub mod ApartLemmas
pub mod PackingLemmas
pub mod PermutedLemmas

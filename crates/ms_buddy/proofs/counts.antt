-- How many free leaves of each level there are, before and after a change.
pub mod CountLemmas
pub mod TreeCountLemmas

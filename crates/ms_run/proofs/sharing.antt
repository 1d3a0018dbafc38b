-- Lines and loaders dealt to shares, worked, and put together.
pub mod HandingLemmas
pub mod ListingLemmas
pub mod SeatsLemmas
pub mod DealLemmas
pub mod HandedEntryLemmas
pub mod HandOnLemmas
pub mod HandedNamesLemmas
pub mod GatherLemmas
pub mod DifferLemmas
pub mod TaskLemmas
pub mod MergeLemmas
pub mod TakenApartLemmas
pub mod StandByLemmas
pub mod ThreadLemmas
pub mod WorkLemmas
pub mod ByTurnLemmas

-- What has a name: entries that come, change and go.
pub mod NameLemmas
pub mod EntryLemmas
pub mod LookupLemmas
pub mod HashedLemmas

-- Sums over loaders, and what settles.
pub mod CollectLemmas
pub mod TotalsLemmas
pub mod UsedLemmas
pub mod DetailLemmas
pub mod SettleLemmas
pub mod FitLemmas
pub mod OwnedLoanLemmas
pub mod MapLemmas

-- The pool as its callers see it: what holds of it before and after each call. TookLemmas,
-- GrewLemmas, ClosedLemmas and HeldLoanLemmas have what callers need; the others are their parts.
pub mod LoanLemmas
pub mod SoundLemmas
pub mod FoundLemmas
pub mod TakenLemmas
pub mod LedgerSlotLemmas
pub mod LoanOrderLemmas
pub mod LentLemmas
pub mod AccountLemmas
pub mod TakeLemmas
pub mod GreaterLemmas
pub mod LoanAtLemmas
pub mod GrowLemmas
pub mod GrownAccountLemmas
pub mod FewerLemmas
pub mod LedgerCloseLemmas
pub mod LedgerOpenLemmas
pub mod PurgeLemmas
pub mod HeldLoanLemmas
pub mod KeepsLemmas
pub mod TookLemmas
pub mod GrewLemmas
pub mod ClosedLemmas

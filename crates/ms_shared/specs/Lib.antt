pub mod MeterRule
pub mod Entries
pub mod Weaving
pub mod History
pub mod SeatView
pub mod LockRule
pub mod LockCalls

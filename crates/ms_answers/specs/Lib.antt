pub mod Sums
pub mod Details

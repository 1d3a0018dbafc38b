pub mod Rows
pub mod Leaves
pub mod Sums
pub mod Series
pub mod Names
pub mod Document

pub mod NumberSet
pub mod Mask
pub mod Nodes
pub mod Keeping
pub mod Laws

pub mod Boxed
pub mod Slots
pub mod Lent
pub mod Loaders
pub mod Used

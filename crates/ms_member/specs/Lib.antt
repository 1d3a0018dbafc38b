pub mod Arenas
pub mod Bare
pub mod Hosted
pub mod Member
pub mod Taking
pub mod Uncommitted

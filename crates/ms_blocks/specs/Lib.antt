pub mod Rank
pub mod Tree
pub mod Classes
pub mod Store
pub mod FreeBlocks
pub mod Tended

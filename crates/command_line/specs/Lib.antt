pub mod Rules
pub mod Given
pub mod Told

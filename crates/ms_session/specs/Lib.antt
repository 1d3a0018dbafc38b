pub mod Failure
pub mod Session
pub mod Asked
pub mod CommandLine
pub mod Start
pub mod Charting
pub mod Watching
pub mod Naming

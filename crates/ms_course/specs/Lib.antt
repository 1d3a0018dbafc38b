pub mod Course
pub mod Gathering
pub mod Standing
pub mod Fewness
pub mod Laws

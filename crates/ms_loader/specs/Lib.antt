pub mod Loader
pub mod LoaderInside
pub mod Table
pub mod Naming
pub mod GivenBack
pub mod ArenaSums
pub mod Amounts
pub mod Finding

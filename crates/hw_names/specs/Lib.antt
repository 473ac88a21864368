pub mod Columns
pub mod Names
pub mod Taken
pub mod inner

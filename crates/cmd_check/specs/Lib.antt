pub mod CheckText
pub mod Gathered
pub mod Handed
pub mod Paths
pub mod inner

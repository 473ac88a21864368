pub mod Simulating
pub mod inner

pub mod Back
pub mod Cycle
pub mod Rows
pub mod Search
pub mod State

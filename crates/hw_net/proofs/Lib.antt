pub mod Accumulator
pub mod Clocks
pub mod Extends
pub mod Growth
pub mod Index
pub mod Steps
pub mod Words

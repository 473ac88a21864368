pub mod Hits
pub mod Taps

pub mod ChainLines
pub mod Hits
pub mod LineEnds
pub mod Parts
pub mod Steps
pub mod Taps

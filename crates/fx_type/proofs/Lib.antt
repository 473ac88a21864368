pub mod Decimals
mod Ends
pub mod Fracs
pub mod FullTypes
mod Functions
mod Narrow
pub mod Ranges

pub mod Chain
pub mod Line
pub mod Register
pub mod Taps
pub mod inner

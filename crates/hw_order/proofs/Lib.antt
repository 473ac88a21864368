pub mod Exists
pub mod NetOrder
pub mod Same
pub mod Unique

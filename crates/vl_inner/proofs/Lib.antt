pub mod Forms
pub mod Meanings
pub mod NameReads
pub mod Products
mod Same
pub mod Shallow

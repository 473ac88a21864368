pub mod Digits
pub mod Strings

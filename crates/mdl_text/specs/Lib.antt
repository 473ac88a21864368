pub mod Bytes
pub mod Lines
pub mod Prefix
pub mod Stands
pub mod inner

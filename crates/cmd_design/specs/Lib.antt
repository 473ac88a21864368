pub mod Design
pub mod Refused
pub mod inner

pub mod Fault
pub mod Flat
pub mod Linked
pub mod Written
pub mod inner

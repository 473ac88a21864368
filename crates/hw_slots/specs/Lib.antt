pub mod Slots
pub mod Answer
pub mod inner

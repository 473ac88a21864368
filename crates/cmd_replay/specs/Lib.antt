pub mod Benched
pub mod Replayed
pub mod Responding
pub mod inner

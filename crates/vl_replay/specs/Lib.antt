pub mod Columns
pub mod Replays
pub mod Sampled
pub mod inner

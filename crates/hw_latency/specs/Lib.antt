pub mod inner
pub mod Shared
pub mod Cone
pub mod Control
pub mod Weight
pub mod Latency
pub mod Laws

pub mod inner
pub mod Found
pub mod Latencies
pub mod Laws

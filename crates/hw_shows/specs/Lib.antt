pub mod Laws
pub mod Series
pub mod Shows
pub mod Timed
pub mod Timing
pub mod Waves

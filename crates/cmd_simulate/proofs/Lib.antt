pub mod Periods
pub mod Simulations

pub mod Fetch
pub mod FileCommands
pub mod Flattening
pub mod Refusals
pub mod SampleFaults
pub mod Tasks

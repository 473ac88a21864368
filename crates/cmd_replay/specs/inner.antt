pub mod Machines
pub mod TextResponse

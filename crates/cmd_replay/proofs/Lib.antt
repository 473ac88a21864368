pub mod Machines
pub mod NoResponse
pub mod Responses

mod OneVerdict
mod Plain
mod SomeVerdict
pub mod TreeFaults

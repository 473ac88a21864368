pub mod Identifiers
pub mod Reserved

pub mod Laws
pub mod Narrow
pub mod Prepared

pub mod Expanded
pub mod Laws

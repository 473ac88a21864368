pub mod Designs
pub mod Prefix
pub mod inner

pub mod Gathered
pub mod Operations
pub mod Serving
pub mod Shared
pub mod inner

pub mod Alike
pub mod Composition
pub mod Drops
pub mod Lists
pub mod Redirects
pub mod Represents

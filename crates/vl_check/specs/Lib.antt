pub mod Cause
pub mod Names
pub mod Ordering
pub mod Scope
pub mod Shape
pub mod inner

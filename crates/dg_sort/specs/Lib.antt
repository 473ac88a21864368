pub mod inner
pub mod Control
pub mod Rows

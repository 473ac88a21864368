pub mod Commands
pub mod Laws
pub mod Shown
pub mod inner

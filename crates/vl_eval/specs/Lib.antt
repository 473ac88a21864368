pub mod Given
pub mod Machine
pub mod inner

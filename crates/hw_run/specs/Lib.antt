pub mod Run
pub mod State
pub mod inner

pub mod Rules
pub mod Times
pub mod inner

pub mod Laws
pub mod Responding
pub mod Response
pub mod inner

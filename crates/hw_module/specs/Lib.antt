pub mod Carries
pub mod Design
pub mod Interface
pub mod Laws
pub mod Pipelined
pub mod Serves
pub mod inner

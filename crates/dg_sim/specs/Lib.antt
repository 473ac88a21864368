pub mod Program
pub mod Ready
pub mod Ring
pub mod Sim
pub mod inner

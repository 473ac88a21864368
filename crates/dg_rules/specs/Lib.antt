pub mod Laws
pub mod ShownCycle
pub mod inner

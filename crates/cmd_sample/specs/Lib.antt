pub mod Chain
pub mod Laws
pub mod ModelText
pub mod Numbers
pub mod Stimulus
pub mod Summary
pub mod inner

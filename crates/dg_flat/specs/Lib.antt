pub mod Flat
pub mod Groups
pub mod Origins
pub mod Parts
pub mod Rules
pub mod inner
pub mod Laws

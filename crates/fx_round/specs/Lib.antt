pub mod DecimalText
pub mod Laws
pub mod inner

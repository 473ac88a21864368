pub mod Conversion
pub mod FullType
pub mod FullTypeOf
pub mod FxType
pub mod Laws
pub mod Span
pub mod StoredOf

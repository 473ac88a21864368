pub mod FirstSample
pub mod Laws
pub mod inner

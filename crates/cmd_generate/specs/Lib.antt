pub mod Generated
pub mod Generating
pub mod Plain
pub mod Streamed
pub mod Streaming
pub mod inner

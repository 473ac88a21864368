pub mod Content
pub mod Plain
pub mod ValueBytes

-- What only private contracts cite.
pub mod Columns
pub mod Control
pub mod CoreNames
pub mod Names
pub mod Wrapper

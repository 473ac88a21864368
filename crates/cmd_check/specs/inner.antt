-- What only private contracts cite.
pub mod OutputLines
pub mod Way

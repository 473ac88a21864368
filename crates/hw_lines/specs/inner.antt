-- What only private contracts cite.
pub mod Ends
pub mod Parts

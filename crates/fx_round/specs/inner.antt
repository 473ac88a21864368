-- Definitions that only private contracts cite.
pub mod Narrow
pub mod Parts
pub mod PlainDecimals

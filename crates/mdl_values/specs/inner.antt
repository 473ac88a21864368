-- Definitions that only private contracts cite.
pub mod Runs
pub mod Sizes

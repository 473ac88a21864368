-- What only private contracts cite.
pub mod Best
pub mod Latencies

-- What only private contracts cite.
pub mod ChainEnds
pub mod Choices
pub mod ClockTests
pub mod Gates
pub mod Parts
pub mod Steps

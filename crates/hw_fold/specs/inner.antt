-- What only private contracts cite.
pub mod Fold
pub mod Passing
pub mod Pins
pub mod Roots

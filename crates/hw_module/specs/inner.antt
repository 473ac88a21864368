-- What only private contracts cite.
pub mod Emission
pub mod Offers
pub mod Steady

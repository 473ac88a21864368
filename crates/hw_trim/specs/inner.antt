-- What only private contracts cite.
pub mod MarkPlaces
pub mod Marks

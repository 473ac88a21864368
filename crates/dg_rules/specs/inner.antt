-- What private contracts cite.
pub mod Ends
pub mod Lines
pub mod Standings

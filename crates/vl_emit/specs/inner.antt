-- What only private contracts cite.
pub mod AtWidth
pub mod Clean
pub mod NetItems
pub mod Operators
pub mod Pieces
pub mod Ready
pub mod Sound
pub mod Spoken

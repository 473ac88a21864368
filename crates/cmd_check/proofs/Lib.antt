mod Fewer
mod FirstNumbers
mod Lines
mod OutputLines
pub mod PieceBytes
mod PieceTexts
mod Rooms
mod Sources
mod WayBack
mod Ways
mod Whole

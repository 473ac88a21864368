pub mod FormTexts
pub mod Joins
pub mod PieceLines
pub mod Puts

pub mod ArcLists
pub mod Marks

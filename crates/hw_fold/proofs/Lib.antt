pub mod Constants
pub mod Marks
pub mod Numbers
pub mod Rules
pub mod Repeats
pub mod Result
pub mod Standings
pub mod WholeFold

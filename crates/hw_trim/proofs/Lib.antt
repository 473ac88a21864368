pub mod MarkCounts
pub mod Marks
pub mod NoProducts
pub mod Result
pub mod WholeTrim

pub mod Cells
pub mod Counts
pub mod Greatest
pub mod Keys
pub mod Service
pub mod Spans

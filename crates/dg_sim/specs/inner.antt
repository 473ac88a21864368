pub mod Columns
pub mod Cursors
pub mod ProgramSteps
pub mod Turns

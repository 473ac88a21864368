pub mod Arithmetic
pub mod Integers
pub mod Residues
pub mod Shifts
pub mod Words

pub mod Bias
mod ByWord
pub mod Congruence
mod ConversionSteps
mod Digits
mod Exactly
mod Halves
mod Modes
mod NumeralForms
mod Orders
mod Shifts
mod Sizes
mod UpShifts

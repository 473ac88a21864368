pub mod DigitLemmas
pub mod FormLemmas
pub mod StringLemmas

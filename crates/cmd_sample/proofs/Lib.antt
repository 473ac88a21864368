pub mod Congruence
mod FirstTexts
pub mod SamplePlan
pub mod SampleTree
pub mod Texts
pub mod WholeLines

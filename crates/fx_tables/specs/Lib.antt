pub mod Fields
pub mod Whole
pub mod Stimulus
pub mod Response
pub mod RowText
pub mod Plan
pub mod inner
pub mod PlanLines

pub mod Candidates
pub mod Findings
pub mod Range
pub mod inner

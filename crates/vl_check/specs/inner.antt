-- What private contracts cite.
pub mod Assignments
pub mod ClockNames
pub mod CycleMarks
pub mod Marks
pub mod Mentions
pub mod NameFacts
pub mod Names
pub mod Order
pub mod Rest
pub mod SortAnswer
pub mod Walks

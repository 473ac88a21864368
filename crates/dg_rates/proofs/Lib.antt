mod Agreement
pub mod BasePeriods
mod FirstFault
mod LinkRows
pub mod OneUnit
mod RowTies
pub mod Steps

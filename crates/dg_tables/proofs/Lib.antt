mod Agreement
mod BetweenHits
mod BlockTypes
pub mod Drivers
pub mod Edges
pub mod EntryLayout
pub mod Equations
pub mod Ground
mod Lines
pub mod Lists
mod Moves
pub mod Ranks
mod RootBlocks
pub mod RootElements
mod RootPorts
mod Rounds
pub mod Runnable
pub mod Single
mod SomeTable
mod SourceEntries
pub mod Sources
mod TypeFits
mod TypeRules
mod Unique
pub mod Widths

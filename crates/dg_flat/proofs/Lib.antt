pub mod Cells
pub mod Controls
pub mod Drivers
pub mod EdgeOrder
pub mod Ends
pub mod FirstOne
pub mod Firsts
pub mod FlatBlock
mod FlatExamples
pub mod FlatList
pub mod FlatParts
pub mod FromSound
pub mod Full
pub mod GroupTable
pub mod Law
pub mod LinePorts
pub mod Lists
pub mod Numbers
pub mod One
pub mod Origins
pub mod PathTable
pub mod PortEdges
pub mod PortReads
pub mod Positions
pub mod Readable
mod Refusals
pub mod Roles
pub mod RootPorts
mod SomeFlat
pub mod Standings
pub mod Subsystems
pub mod Tables
pub mod Verdicts
pub mod WireRules

-- What private contracts cite.
pub mod Assigns
pub mod Contexts
pub mod Edges
pub mod Merge
pub mod Moves
pub mod OperatorSteps
pub mod Ops
pub mod Order
pub mod PlaceBits
pub mod PlanOperations
pub mod Reading
pub mod Site
pub mod Steps

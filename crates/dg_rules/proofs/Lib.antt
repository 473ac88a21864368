mod LineStates
mod PlanLines
mod PathEnds
pub mod PlanOf
mod OneRule
mod TwoCycles
mod OneCycle
mod SomeRule

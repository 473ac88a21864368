-- What only private contracts cite.
pub mod PlanNets
pub mod PlanSteps
pub mod Spread

mod Accumulator
pub mod Arguments
pub mod Conversions
pub mod Ends
pub mod GateArguments
pub mod LowBits
pub mod Modes
pub mod Multiplies
pub mod PlanNets
pub mod PlanSteps
pub mod PlanWaves
pub mod Products
pub mod StepChains
pub mod SumTerms
pub mod Truths
pub mod Unions
pub mod WordRests

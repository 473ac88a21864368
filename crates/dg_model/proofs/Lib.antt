mod Chain
mod Columns
mod DelayOfThree
mod Elements
mod EnabledAccumulator
mod EnabledOutput
pub mod Examples
mod Flat
mod GainTypes
mod Late
mod LeastLoop
mod Numbers
mod OperationInputs
mod ParamTypes
mod PeriodRounds
mod PlanFaults
pub mod Ports
pub mod Propagation
mod RateAndLoop
mod ReadableRows
pub mod Refusals
pub mod Roots
mod Roundings
mod SmallDiagrams
pub mod SoundRows
mod SubsystemPorts
pub mod SumTerms
mod SumTypes
mod Transitions
mod TypeFaults
mod TypeOfSmall
mod TypeRows
mod Vectors
mod WidthRounds
mod WireRows

mod Beside
mod BracketLemmas
mod DecimalForms
mod DecimalLemmas
mod EitherLemmas
mod ElementLemmas
mod ListLemmas
pub mod OneNumber
pub mod OneType
mod OneValue
mod PeriodLemmas
mod PieceLemmas
mod SignLemmas
mod TypeLemmas
mod WordLemmas
mod ZipLemmas

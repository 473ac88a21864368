pub mod Exactly
mod Fracs
mod Gaps
mod NarrowWords
mod Outputs
mod Pairs
mod Products
mod Ranges
mod Shifts
mod Steps
mod Sums
mod TypeLists
mod Weights

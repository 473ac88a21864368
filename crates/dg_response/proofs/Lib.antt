pub mod Elements
pub mod SampleSteps
pub mod Single
pub mod Stimuli

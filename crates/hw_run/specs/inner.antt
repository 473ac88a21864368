pub mod StepTests
pub mod Sweep

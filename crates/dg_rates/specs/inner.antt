-- What private contracts cite.
pub mod Above
pub mod Links
pub mod Sources
pub mod StepLaws
pub mod Steps
pub mod Units

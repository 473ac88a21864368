-- What private contracts cite.
pub mod Drivers
pub mod Play
pub mod Rest
pub mod Samplers
pub mod Start

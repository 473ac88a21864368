pub mod Renumbered
pub mod Sound

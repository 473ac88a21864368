pub mod Layout
pub mod Ports

pub mod Index
pub mod Names
pub mod Nets
pub mod Tables
pub mod Tests
pub mod Puts
pub mod Written

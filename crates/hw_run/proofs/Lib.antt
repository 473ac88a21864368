pub mod At
pub mod Products
pub mod Steppable
pub mod Sweep

pub mod Products
pub mod Sound

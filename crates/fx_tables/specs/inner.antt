pub mod Digits
pub mod Draft
pub mod Number
pub mod PlainPlan

pub mod ModelFault
pub mod Singles
pub mod Values

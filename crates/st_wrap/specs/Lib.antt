pub mod Names
pub mod Pace
pub mod Promised
pub mod Header
pub mod Handshake
pub mod Transfers
pub mod Carried
pub mod inner

pub mod NameSets
pub mod Places
mod Plain
mod RootNames

pub mod Laws
pub mod Model
pub mod RuleLine
pub mod Verdict
pub mod inner

pub mod Agree
pub mod Alone
pub mod Chains
pub mod ClockEnable
pub mod ClockEnableRuns
pub mod ClockEnableSound
pub mod Copies
pub mod ExprLayouts
pub mod ExprTokens
pub mod Facts
mod Faults
pub mod FormLayouts
pub mod Forms
pub mod FullCounts
pub mod Gates
pub mod GatesSound
mod Header
pub mod ItemLayouts
pub mod Layers
pub mod LayoutParts
pub mod Layouts
pub mod Listings
pub mod ModuleLayouts
pub mod ModuleTokens
pub mod NetLayouts
pub mod NetsAgree
pub mod OneDriver
pub mod OneRun
pub mod Parts
pub mod PlainRows
pub mod PortLists
pub mod Ranges
mod Rows
pub mod Searches
pub mod SomeInputs
pub mod SoundAgree
pub mod StallFree
mod StallRows
pub mod Steps
pub mod Thin
pub mod TokenForms
pub mod Values

pub mod Above
pub mod BlockNumbers
pub mod BlockPlaces
pub mod CountLemmas
pub mod Ends
mod Examples
mod ExpandedFilters
pub mod ExtentLemmas
pub mod Fillings
mod FilterEdges
mod FilterLists
mod FilterModel
mod FilterPlaces
mod FilterPorts
mod FilterSketch
mod FilterSound
pub mod FindSteps
pub mod FirstDefaults
pub mod LineLemmas
pub mod MakerLemmas
pub mod ModelNumbers
pub mod NameNumbers
pub mod OneFault
pub mod OneNested
pub mod OneSetting
pub mod ParameterLemmas
pub mod PartRanges
pub mod Places
pub mod Ranges
pub mod Readable
mod ReadableFilter
pub mod Readings
pub mod RoleLemmas
pub mod RoleSteps
pub mod SettingRanges
pub mod SomeNested
pub mod Sound
pub mod SoundBlocks
mod SoundFilters
pub mod SoundLines
pub mod SoundNames
pub mod SoundParts
pub mod SoundPorts
pub mod SoundSearch
pub mod SoundTree
pub mod StructureLemmas
pub mod TypeNumbers
mod Zeros

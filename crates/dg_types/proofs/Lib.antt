mod AccumSteps
pub mod Counts
pub mod DimensionTests
pub mod FracFits
pub mod FracSearch
pub mod FractionRanges
pub mod GreatestFrac
pub mod InputTests
pub mod LinkRows
pub mod ScanFacts
pub mod SumTypes
pub mod TypeParts
pub mod TypeRounds
pub mod Verdicts
pub mod WidthRounds
pub mod WidthTables

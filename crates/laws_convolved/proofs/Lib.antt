mod Commands
mod FilterEnds
mod FirBlocks
mod FlatPlaces
mod Flattened
mod Models
mod OutputPlaces
mod RootLines

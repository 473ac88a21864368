pub mod Flat
pub mod Paths
pub mod RowColumns

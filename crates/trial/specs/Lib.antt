pub mod Tallies
pub mod Samples
pub mod Rows
pub mod Cells

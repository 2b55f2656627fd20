pub mod Meaning
pub mod Sizes
pub mod Grids
pub mod Shown

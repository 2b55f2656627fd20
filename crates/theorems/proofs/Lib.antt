pub mod Ruled
pub mod Files
pub mod Stripes
pub mod Factors
pub mod Reached

pub mod Sums
pub mod Consequences
pub mod Vandermonde

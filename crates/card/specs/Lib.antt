pub mod Cards
pub mod Grows
pub mod Shown

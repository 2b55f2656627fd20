pub mod Wanted
pub mod States
pub mod Rebuild
pub mod Fetching
pub mod Round

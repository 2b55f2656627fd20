pub mod Latest
pub mod Uses
pub mod Puts

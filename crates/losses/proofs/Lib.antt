pub mod Counting
pub mod Rows
pub mod Descent
pub mod Survivors
pub mod Recovery
pub mod Limit

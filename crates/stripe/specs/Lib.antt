pub mod Reasons
pub mod Calls
pub mod Ledger
pub mod Law
pub mod Survival

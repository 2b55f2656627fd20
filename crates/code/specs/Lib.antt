pub mod Refusals
pub mod Bounds
pub mod Positions
pub mod Stripe
pub mod Held
pub mod Work

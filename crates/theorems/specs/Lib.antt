pub mod Linear
pub mod Change

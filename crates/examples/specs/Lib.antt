pub mod Small
pub mod Examples

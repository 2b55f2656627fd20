pub mod Encoding
pub mod Systems
pub mod Scratch
pub mod Rules

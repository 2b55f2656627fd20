pub mod Systems
pub mod Rows
pub mod Cells
pub mod Factors
pub mod Answers
pub mod Decisions

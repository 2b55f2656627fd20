pub mod Carrier
pub mod Ring
pub mod CarrierSums
pub mod CarrierVandermonde
pub mod Bridge
pub mod Numbers
pub mod Vandermonde
pub mod Statements

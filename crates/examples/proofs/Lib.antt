pub mod Computed
pub mod Answering
pub mod Fitting
pub mod Stripes
pub mod Reading
pub mod Changing
pub mod Every

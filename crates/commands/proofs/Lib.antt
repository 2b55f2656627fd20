pub mod Tests
pub mod Reading
pub mod Walks

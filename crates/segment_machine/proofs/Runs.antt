pub mod Tests
pub mod Blocks
pub mod Counts
pub mod Notes
pub mod Reached

pub mod Allocations
pub mod Publishes
pub mod Walks

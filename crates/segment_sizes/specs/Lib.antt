pub mod Filling
pub mod Needed

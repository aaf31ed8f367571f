pub mod Scaling
pub mod Unmet

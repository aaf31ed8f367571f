pub mod Dashes
pub mod Mistakes

pub mod Loads
pub mod Moves
pub mod Keeps

pub mod Kinds
pub mod Inputs
pub mod Sources

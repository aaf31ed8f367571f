pub mod Patches
pub mod Looks

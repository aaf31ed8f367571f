pub mod Failure
pub mod Telling

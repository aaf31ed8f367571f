pub mod Delta
pub mod Keys
pub mod SmallNumbers
pub mod Stages
pub mod Values
pub mod Runs

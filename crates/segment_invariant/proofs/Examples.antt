pub mod Mounted
pub mod OneRecord

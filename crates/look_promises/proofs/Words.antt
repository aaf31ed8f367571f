pub mod Patches
pub mod Apart
pub mod Mounted
pub mod Records
pub mod Images
pub mod Counted
pub mod Starting
pub mod Cleared

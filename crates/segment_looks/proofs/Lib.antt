pub mod Followed
pub mod Patched
pub mod Headed

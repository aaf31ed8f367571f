pub mod Blocks
pub mod Claimers
pub mod Events
pub mod Headers
pub mod Keeps
pub mod Payloads
pub mod Rises

pub mod References
pub mod Chains
pub mod EventKinds
pub mod Keeping
pub mod Prefixes
pub mod Steps
pub mod Walks
pub mod Cursors

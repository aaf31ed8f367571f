pub mod Keeps
pub mod Learned
pub mod Nexts
pub mod Room
pub mod Walks
pub mod Words

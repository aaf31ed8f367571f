-- The lemmas, in folders like the sources and the definitions.
pub mod Add
pub mod Alloc
pub mod Delta
pub mod Hist
pub mod List
pub mod Snapshot
pub mod Steps

-- Parts of calls: an actor goes along with an allocation, a publish and a walk.
pub mod Alone
pub mod Allocations
pub mod Claims
pub mod Compares
pub mod Comparisons
pub mod Deeds
pub mod Differences
pub mod NewRecords
pub mod Records
pub mod Sames
pub mod Walks

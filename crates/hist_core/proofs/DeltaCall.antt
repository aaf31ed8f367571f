-- The call `delta`.
pub mod Counts
pub mod Deltas
pub mod Going
pub mod Lists
pub mod Marks
pub mod Samples
pub mod Sights
pub mod Singles
pub mod Sums
pub mod Values

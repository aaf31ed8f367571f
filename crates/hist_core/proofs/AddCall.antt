-- The call `add`.
pub mod Adding
pub mod Counts
pub mod Entries
pub mod GhostNotes
pub mod Going
pub mod Loads
pub mod Mounts
pub mod Moves
pub mod Opening
pub mod Packs
pub mod Redundants
pub mod Refusals
pub mod Samples
pub mod Searches
pub mod Sums

-- Worlds, and the actors in them.
pub mod ActorRuns
pub mod Apart
pub mod Beginnings
pub mod Causes
pub mod Faults
pub mod Landing
pub mod Free
pub mod Moving
pub mod NewWorldStates
pub mod Quiet
pub mod Pointers
pub mod Scheduling
pub mod Starts
pub mod Transits
pub mod WorldStates
pub mod Zips

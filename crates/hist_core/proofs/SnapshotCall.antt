-- The call `snapshot`.
pub mod Looks
pub mod Snapshots
pub mod ValuesSeen
pub mod Viewing

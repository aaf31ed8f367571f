-- A block is claimed.
pub mod Blocks
pub mod Claimed
pub mod Rooms
pub mod Taken
pub mod Tries

pub mod Blocks
pub mod Memory
pub mod Rooms
pub mod Shelf

-- A segment is closed.
pub mod Copies
pub mod Given
pub mod Joined
pub mod Onward
pub mod Risen
pub mod Stopped

pub mod Bodies
pub mod Pieces
pub mod Places
pub mod Published
pub mod Stops

pub mod FirstActors
pub mod Recorders
pub mod Segments

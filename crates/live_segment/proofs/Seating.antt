-- Seats at the table of a segment.
pub mod Adopted
pub mod Callers
pub mod Openings
pub mod Recorders
pub mod Seated
pub mod Standing

pub mod Grows
pub mod Beyond
pub mod Sums
pub mod GoOn
pub mod Moments

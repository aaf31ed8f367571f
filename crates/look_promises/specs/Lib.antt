pub mod Runs
pub mod Looks
pub mod Images
pub mod Reading
pub mod OneMoment
pub mod Sums
pub mod Lives

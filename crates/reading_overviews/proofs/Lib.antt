pub mod Sums
pub mod Texts

pub mod Elements
pub mod Sums
pub mod Maps
pub mod Pairs
pub mod Firsts

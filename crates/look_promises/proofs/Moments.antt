pub mod Runs
pub mod Unchanged
pub mod Listed
pub mod Grounds
pub mod Room
pub mod Firsts

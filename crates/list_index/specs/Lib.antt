pub mod Firsts
pub mod Groups
pub mod Keys

mod Closing
pub mod Seating
pub mod lemmas

-- A record is made: an actor goes along with its allocation, its words and its publish.
pub mod Claims
pub mod Drafts
pub mod Fills
pub mod Publishes

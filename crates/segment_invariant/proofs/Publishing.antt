pub mod Keeps
pub mod Linkable
pub mod Links
pub mod OwnNext
pub mod Tails

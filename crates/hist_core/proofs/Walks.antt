-- Walks along the list, and shared cursors.
pub mod Orders
pub mod Passing
pub mod Walking

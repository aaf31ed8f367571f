pub mod AsBox
pub mod Calling
pub mod Ending
pub mod Fitting
pub mod Holding
pub mod Joining
pub mod NewSegments
pub mod Passing
pub mod Present
pub mod Reporting
pub mod Mailboxes
pub mod Looks
pub mod Summing
mod Reading
mod Merges
mod Follows

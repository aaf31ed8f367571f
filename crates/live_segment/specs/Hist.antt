-- How a `hist` finds the histogram of a name, or makes it.
pub mod Answer
pub mod KnownNames
pub mod ListSearch
pub mod NewRecord
pub mod Opened
pub mod Outcome
pub mod Search
pub mod Prelude

-- What every crate that runs calls knows of their actors.
pub mod BlankTotals
pub mod BucketLists
pub mod Orders
pub mod Places
pub mod SampleLists
pub mod SeenWords
pub mod Sights
pub mod SpecBuckets

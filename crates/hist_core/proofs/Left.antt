-- What is left of a running call: each event after which it continues leaves less.
pub mod Less
pub mod Lists
pub mod Allocs
pub mod Publishes
pub mod Records
pub mod Hists
pub mod Searches
pub mod Adds
pub mod Batches
pub mod SampleWalks
pub mod Snapshots
pub mod Deltas
pub mod Places
pub mod Lengths

pub mod Parts
pub mod Went
pub mod Meetings
pub mod Runs
pub mod Recorded
pub mod Began
mod Stops
mod MergeClosed
mod MergeFilled
mod MergeFaults
mod MergeOutcomes
mod TakenScripts
mod Headers
mod Outcomes

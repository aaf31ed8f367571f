pub mod Parts
pub mod Entries
pub mod Recording
pub mod Stop
pub mod Recorded
pub mod Run
pub mod Resume
pub mod MergeFiles

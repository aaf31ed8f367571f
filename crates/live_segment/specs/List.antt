-- The list of records: what is put on it, who walks along it, and who is given its records.
pub mod Ends
pub mod Index
pub mod IndexedValues
pub mod Keys
pub mod Publish
pub mod Records
pub mod SampleRecords
pub mod SharedCursors
pub mod Values
pub mod Walk
pub mod Prelude

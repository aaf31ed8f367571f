-- The call `snapshot`.
pub mod Answered
pub mod Answering
pub mod BucketsSeen
pub mod Packed
pub mod SamplesSeen
pub mod Seeing
pub mod Totals

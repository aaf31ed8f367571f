-- The call `delta`.
pub mod AllBuckets
pub mod Behind
pub mod BucketKeys
pub mod DeltaEnds
pub mod FewKeys
pub mod Given
pub mod NoMore
pub mod OneBucket
pub mod OneDelta
pub mod OneSample
pub mod OneValue
pub mod Owed
pub mod SampleCounts
pub mod SamplesDelta

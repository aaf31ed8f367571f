pub use Rattle.segment_image.specs.Head
pub use Rattle.bucket_ranges.specs.Reading
pub mod Records
pub mod Adoption

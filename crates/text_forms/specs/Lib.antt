pub use Rattle.image_reader.specs.Views
pub use Rattle.image_reader.specs.Readable
pub use Rattle.bucket_ranges.specs.Reading
pub mod Readables
pub mod Heads
pub mod Subjects
pub mod Forms
pub mod Writing

pub use Rattle.image_reader.specs.Views
pub use Rattle.image_reader.specs.Readable
pub use Rattle.bucket_ranges.specs.Reading
pub mod Numbers
pub mod Spent
pub mod Overview
pub mod SumOverview

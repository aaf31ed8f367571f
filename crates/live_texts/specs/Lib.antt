pub use Rattle.image_reader.specs.Views
pub use Rattle.image_reader.specs.Readable
pub mod Live

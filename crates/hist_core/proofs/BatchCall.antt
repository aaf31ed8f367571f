-- The call `batch`.
pub mod BatchBegins
pub mod Batched
pub mod Batching
pub mod Entries
pub mod Finals
pub mod Items

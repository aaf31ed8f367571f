-- The call `batch`.
pub mod Batches
pub mod Blocks
pub mod ItemNoted
pub mod Items
pub mod ItemsCounted
pub mod ItemsRefused
pub mod LastItem
pub mod SumAdded
pub mod SumWithin
pub mod Unsummed

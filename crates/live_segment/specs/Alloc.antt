-- How a block is claimed, and what calls have claimed.
pub mod Allocation
pub mod Claims
pub mod Rises
pub mod Prelude

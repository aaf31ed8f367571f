pub mod Fields
pub mod Call
pub mod Order
pub mod Schedule

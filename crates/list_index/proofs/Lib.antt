pub mod Meeting
pub mod KeyOrder

pub mod Field
pub mod Complaint
pub mod Header

pub mod Moments
pub mod NewRecords
pub mod Copies
pub mod Words
pub mod Amounts
pub mod Kept
pub mod Looked
pub mod Lives

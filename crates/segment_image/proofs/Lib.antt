pub mod TakePut
pub mod ReadWords
pub mod WordsOfBytes
pub mod Fitted

pub mod Words
pub mod Headers
pub mod Here

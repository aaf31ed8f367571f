pub mod Names
pub mod Mark
pub mod Belonging
pub mod Segments
pub mod Folder
pub mod Folding
pub mod Written

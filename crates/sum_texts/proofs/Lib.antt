pub mod Numbers
pub mod FieldLists
pub mod Writings
pub mod Splits
pub mod LineLacks
pub mod Fronts
pub mod Wholes
pub mod Texts
mod Formed
pub mod OneImage

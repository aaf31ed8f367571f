pub mod Cells
pub mod Inert
pub mod Numbered
pub mod Steps
pub mod Totals
pub mod Came
pub mod AllThere

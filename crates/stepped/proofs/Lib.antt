mod Blocks
mod Shown
mod Looked
mod Texts
mod Written

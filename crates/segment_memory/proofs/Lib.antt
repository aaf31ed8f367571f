pub mod Heap
pub mod Shelves
pub mod Taken

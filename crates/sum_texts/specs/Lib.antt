pub mod Lines
pub mod Views
pub mod Runs
pub mod Read
pub mod Writable
pub mod Endings

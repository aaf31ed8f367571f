pub mod Alike
pub mod InTurn
pub mod Fits
pub mod Behind
pub mod Taking

pub mod Std
pub mod Machine
pub mod Invariant

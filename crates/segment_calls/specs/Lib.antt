pub mod Refusal
pub mod Faults
pub mod Form
pub mod Asked
pub mod Keys
pub mod Blocks

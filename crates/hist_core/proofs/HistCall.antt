-- The call `hist`.
pub mod Asking

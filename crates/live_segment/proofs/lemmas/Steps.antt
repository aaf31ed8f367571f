-- The steps of a recorder keep the rule of its segment's table.
pub mod Allowed
pub mod CursorSteps
pub mod GhostNoted
pub mod Listed
pub mod Proceeding
pub mod Reported

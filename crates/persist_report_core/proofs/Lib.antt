pub mod Answering
pub mod Numbers
pub mod FieldLemmas
pub mod DraftLemmas
pub mod Requests
pub mod ScriptRows
pub mod Records
pub mod ReadScripts
mod ReadWhole
mod Looks
pub mod Inputs
pub mod Wholeness

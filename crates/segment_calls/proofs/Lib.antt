pub mod Letters
mod Payloads
pub mod SortedKeys

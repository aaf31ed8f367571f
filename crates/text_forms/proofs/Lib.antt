pub mod Answering
pub mod Reports
pub mod Pages
